-- Tests that code makes by a call.
use Rattle.std.specs.Prelude.{◌≡◌, ℕ, Bool}
use Rattle.std.specs.Fn.{Mut, CalledAt}
use denote.Ref.{Bor}

-- each call answers as the test does, and leaves what is called as it was
abbrev pub Answers : {F : Type 0} → Mut F (Bor ℕ × Unit {0}) Bool → F → (ℕ → Bool) → Type 0
Answers {F} g f test = (k : ℕ) (b : Bool) (f' : F) → CalledAt g f k b f' → (f' ≡ f) × (b ≡ test k)
