-- What an inventory means, and the laws of a lawful one.
use Rattle.std.specs.Prelude.{◌≡◌, ℕ, Bool, false, ◌&&◌, T, List, [], ◌∷◌, nat_lt}

-- Values of items: what no items are worth, how two values are joined, when one is below another,
-- what one item of a code is worth (its grain), and whether a value meets a code with an amount.
pub record Meaning : Type 1 where
  pub Value : Type 0
  pub neutral : Value
  pub join : Value → Value → Value
  pub Below : Value → Value → Type 0
  pub grain : ℕ → Value
  pub meets : Value → ℕ → ℕ → Bool

-- The eight laws.
pub record Lawful (m : Meaning) : Type 0 where
  -- joining is associative and commutative, and the neutral value adds nothing
  pub assoc : (u v w : m.Value) → m.join (m.join u v) w ≡ m.join u (m.join v w)
  pub comm : (u v : m.Value) → m.join u v ≡ m.join v u
  pub neutral : (v : m.Value) → m.join m.neutral v ≡ v
  -- the order is reflexive and transitive, a value is below what is joined on to it, and joining keeps the order
  pub reflexive : (v : m.Value) → m.Below v v
  pub transitive : (u v w : m.Value) → m.Below u v → m.Below v w → m.Below u w
  pub grows : (u v : m.Value) → m.Below u (m.join u v)
  pub monotone : (u v w : m.Value) → m.Below u v → m.Below (m.join u w) (m.join v w)
  -- what a value meets, every value above it meets
  pub keeps : (u v : m.Value) (code n : ℕ) → m.Below u v → T (m.meets u code n) → T (m.meets v code n)

-- whether a value holds an amount of a code: amount 0 is answered no, whatever the inventory
abbrev pub held : (m : Meaning) → m.Value → ℕ → ℕ → Bool
held m v code n = nat_lt 0 n && m.meets v code n

-- a value with one item of each of some codes joined on
abbrev pub with_codes : (m : Meaning) → m.Value → List ℕ → m.Value
with_codes m v [] = v
with_codes m v (c ∷ cs) = with_codes m (m.join v (m.grain c)) cs

-- a code that the inventory does not know: worth nothing, and never met
pub record Unknown (m : Meaning) (code : ℕ) : Type 0 where
  pub worthless : m.grain code ≡ m.neutral
  pub unmet : (v : m.Value) (n : ℕ) → m.meets v code n ≡ false
