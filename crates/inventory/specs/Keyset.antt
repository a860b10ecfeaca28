-- Keys: a set of the codes 0 to 31.
use Rattle.std.specs.Prelude.{ℕ, zero, suc, ◌+◌, Bool, false, cond, ◌&&◌, ◌||◌, T, List, ◌==◌, nat_lt, slice_index_or}
use Rattle.inventory.specs.Meaning.{Meaning}

-- the codes that a family has
abbrev pub known : ℕ → Bool
known code = nat_lt code 32

-- sets are joined to their union, a set is below those that contain it, and a member is met once
abbrev pub keys : Meaning
keys = record {
  Value = ℕ → Bool;
  neutral = λ c. false;
  join = λ u v c. u c || v c;
  Below = λ u v. (c : ℕ) → T (u c) → T (v c);
  grain = λ code c. known code && (c == code);
  meets = λ v code n. known code && (n == 1 && v code);
}

-- the set that a table of yes and no shows
abbrev pub set_of : List Bool → ℕ → Bool
set_of has c = slice_index_or has c false

-- how many of the codes below n are members
abbrev pub members : (ℕ → Bool) → ℕ → ℕ
members v zero = 0
members v (suc n) = members v n + cond (v n) 1 0
