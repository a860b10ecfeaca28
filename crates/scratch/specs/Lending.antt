-- The bytes that a caller lends: 64 for the regions, 256 for the places, and then the caller's own.
use Rattle.std.specs.Prelude.{◌≡◌, ℕ, cond, List, ◌++◌, length, take, drop, replicate, nat_lt}
use Rattle.std.specs.Borrow.{MutBor}

-- how many bytes a call works in
abbrev pub work_marks : ℕ
work_marks = 320

-- the caller's own bytes, past those
unfoldable pub later : List ℕ → List ℕ
later bytes = drop work_marks bytes

-- zeros in all bytes that a call works in, and then some bytes
unfoldable pub wiped : List ℕ → List ℕ
wiped bytes = replicate work_marks 0 ++ bytes

-- what the bytes hold after a call: too few are untouched, else zeros stand before the caller's own
abbrev pub after_call : List ℕ → List ℕ
after_call bytes = cond (nat_lt (length bytes) work_marks) bytes (wiped (later bytes))

-- a call of the work with the lent bytes for its rows may have answered t: 64 of them for the regions, the next 256 for the places; `post` says what a call does
abbrev pub Worked : {T : Type 0} → List ℕ → (MutBor (List ℕ) → MutBor (List ℕ) → T → MutBor (List ℕ) → MutBor (List ℕ) → Type 0) → T → Type 0
Worked bytes post t = (regions : MutBor (List ℕ)) × (places : MutBor (List ℕ)) × (regions' : MutBor (List ℕ)) × (places' : MutBor (List ℕ)) × (regions.now ≡ take 64 bytes) × (places.now ≡ take 256 (drop 64 bytes)) × post regions places t regions' places'
