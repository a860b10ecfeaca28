-- Tokens, and the answers of the calls that give, take or refuse one.
use Rattle.std.specs.Prelude.{ℕ, false, Some, None, Ok, Err, Option, Result}
use Rattle.model.specs.declared.board_refusal.BoardRefusal.{BoardRefusal}
use Rattle.model.specs.Boards.{Board}
use Rattle.board.specs.declared.token.Token.{Token}
use Rattle.board.specs.declared.token.Refused.{Refused}

-- the token of a lifted item
abbrev pub token_of : ℕ → Token
token_of item = record { item = item; spent = false }

-- a lift answers the item's token
abbrev pub lift_answer : ℕ → Result Board BoardRefusal → Result Token BoardRefusal
lift_answer item (Ok b) = Ok (token_of item)
lift_answer item (Err why) = Err why

-- a set that is refused gives its token back
abbrev pub set_answer : Token → Result Board BoardRefusal → Result (Unit {0}) Refused
set_answer token (Ok b) = Ok tt
set_answer token (Err why) = Err (record { why = why; token = token })

-- a back keeps the token, refused or not
abbrev pub back_answer : Result Board BoardRefusal → Result (Unit {0}) BoardRefusal
back_answer (Ok b) = Ok tt
back_answer (Err why) = Err why

-- why a call is refused, if it is
abbrev pub refusal_of : Result Board BoardRefusal → Option BoardRefusal
refusal_of (Ok b) = None
refusal_of (Err why) = Some why
