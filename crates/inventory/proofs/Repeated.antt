-- A list of one element repeated, read at that element as the default: what the tables start from.
use Rattle.std.proofs.Common.{◌≡◌, ℕ, zero, suc, ◌≤◌, min, false, get_or, replicate, refl, ap, arith}
use Rattle.std.proofs.Math.Path.{fun_ext}
use Rattle.inventory.specs.Keyset.{keys, set_of}
use Rattle.inventory.specs.Capped.{levels, up_to, levels_of}
use Rattle.inventory.specs.CappedLaws.{same_levels}

pub get_or-replicate_same : {A : Type 0} (n i : ℕ) (a : A) → get_or (replicate n a) i a ≡ a
get_or-replicate_same zero i a = refl
get_or-replicate_same (suc n) zero a = refl
get_or-replicate_same (suc n) (suc i) a = get_or-replicate_same n i a

pub no_keys : set_of (replicate 32 false) ≡ keys.neutral
no_keys = fun_ext (λ code. get_or-replicate_same 32 code false)

pub no_levels : (top : ℕ) → levels_of top (replicate 32 0) ≡ (levels (up_to top)).neutral
no_levels top = same_levels _ _ (λ c. ap (λ n. min n (up_to top c)) (get_or-replicate_same {A = ℕ} 32 c 0))

pub none_within : (top c : ℕ) → get_or (replicate 32 0) c 0 ≤ top
none_within top c = omega (arith, get_or-replicate_same {A = ℕ} 32 c 0)
