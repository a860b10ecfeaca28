-- One row more in a draft, taken in or refused.
use Rattle.std.proofs.Common.{◌≡◌, ℕ, ◌+◌, Bool, true, false, cond, ◌&&◌, T, ltb, leb, List, [], ◌∷◌, ◌++◌, length, is_ok, Some, None, Ok, Err, Result, OnOk, OnErr, sym, ◌∙◌, subst}
use Rattle.std.proofs.lemmas.Bool.{cond-true, false≢true}
use Rattle.std.proofs.lemmas.Option.{none-some}
use Rattle.model.specs.declared.rule_word.RuleWord.{RuleWord}
use Rattle.model.specs.Marks.{every}
use Rattle.model.specs.Rules.{formed}
use Rattle.model.specs.Proper.{of_kinds, names_kinds, proper_rule}
use Rattle.model.proofs.Sets.{and_both, and_from, true_if}
use Rattle.world.specs.declared.refusal.BuildRefusal.{BuildRefusal}
use Rattle.world.specs.Building.{item_refusal, rule_fits, rule_refusal}
use Rattle.world.specs.Listed.{listed}
use Rattle.world.specs.declared.table.Table.{Table}

-- what a call leaves that finds room
pub with_room : {E P : Type 0} (r : Result (Unit {0}) E) (fitting : Bool) → is_ok r ≡ fitting → T fitting → OnOk r P → P
with_room (Ok x) fitting e t p = p
with_room (Err why) true e t p = absurd (false≢true e)
with_room (Err why) false e t p = absurd t

-- a fact of two values, said of two that equal them
pub back : {A B : Type 0} (P : A → B → Type 0) {a a' : A} {b b' : B} → a' ≡ a → b' ≡ b → P a b → P a' b'
back P {a} {a'} {b} {b'} e f p = subst (λ y. P a' y) (sym f) (subst (λ x. P x b) (sym e) p)

-- a row put into a table, or left out of it
pub pushed_or_kept : {A E : Type 0} {max : ℕ} (P : List A → Type 0) (r : Result (Unit {0}) E) (old new : Table A max) (row : A)
    → OnOk r (listed new ≡ listed old ++ row ∷ []) → OnErr r (new ≡ old) → P (listed old) → P (listed old ++ row ∷ []) → P (listed new)
pushed_or_kept P (Ok x) old new row e k before after = subst P (sym e) after
pushed_or_kept P (Err why) old new row e k before after = subst (λ t. P (listed t)) (sym k) before

-- rows behind a list that has room for them
pub joined_on : {A : Type 0} (xs more ys : List A) (fits fitting : Bool) → fits ≡ fitting → T fitting → ys ≡ cond fits (xs ++ more) xs → ys ≡ xs ++ more
joined_on xs more ys fits fitting e t h = h ∙ cond-true fits (xs ++ more) xs (e ∙ true_if fitting t)

-- what is known of an item that is not refused
item_cases : (known room : Bool) (no_kind no_room : BuildRefusal) → None ≡ cond known (cond room None (Some no_room)) (Some no_kind) → T known × T room
item_cases true true no_kind no_room e = (tt, tt)
item_cases true false no_kind no_room e = absurd (none-some no_room e)
item_cases false room no_kind no_room e = absurd (none-some no_kind e)

-- an item that is taken into a list of at most some
pub record ListedNow (kinds xs ys : List ℕ) (code : ℕ) : Type 0 where
  pub known : T (of_kinds kinds code)
  pub pushed : ys ≡ xs ++ code ∷ []

pub item_listed : (kinds xs ys : List ℕ) (code most : ℕ) (fits : Bool) → item_refusal kinds (ltb (length xs) most) code ≡ None → fits ≡ ltb (length xs) most → ys ≡ cond fits (xs ++ code ∷ []) xs
    → ListedNow kinds xs ys code
item_listed kinds xs ys code most fits none fitting rows =
    let facts = item_cases (of_kinds kinds code) (ltb (length xs) most) _ _ (sym none) in
    record { known = facts.0; pushed = joined_on xs (code ∷ []) ys fits (ltb (length xs) most) fitting facts.1 rows }

-- what is known where a single test decides
pub fits_cases : (b : Bool) (why : BuildRefusal) → cond b None (Some why) ≡ None → T b
fits_cases true why e = tt
fits_cases false why e = absurd (none-some why (sym e))

-- what is known of a rule that is not refused
rule_cases : (a b c : Bool) (x y z : BuildRefusal) → None ≡ cond a (cond b (cond c None (Some x)) (Some y)) (Some z) → T a × (T b × T c)
rule_cases true true true x y z e = (tt, (tt, tt))
rule_cases true true false x y z e = absurd (none-some x e)
rule_cases true false c x y z e = absurd (none-some y e)
rule_cases false b c x y z e = absurd (none-some z e)

pub record Taken (kinds : List ℕ) (words : ℕ) (room : Bool) (rule : List RuleWord) : Type 0 where
  pub proper : T (proper_rule kinds rule)
  pub roomy : T room
  pub behind : T (leb (words + length rule) 4096)

pub rule_taken : (kinds : List ℕ) (words : ℕ) (room : Bool) (rule : List RuleWord) → None ≡ rule_refusal kinds words room rule → Taken kinds words room rule
rule_taken kinds words room rule e =
    let p = rule_cases (formed rule) (every (names_kinds kinds) rule) (rule_fits room words rule) _ _ _ e in
    let q = and_both room _ p.1.1 in
    let s = and_both (leb (length rule) 32) _ q.1 in
    record {
      proper = and_from (leb (length rule) 32 && formed rule) _ (and_from (leb (length rule) 32) _ s.0 p.0) p.1.0;
      roomy = q.0;
      behind = s.1;
    }
