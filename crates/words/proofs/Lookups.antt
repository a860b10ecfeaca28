-- A place in a list of names that are borrowed.
use Rattle.std.proofs.Common.{◌≡◌, ℕ, ◌+◌, Bool, cond, List, [], ◌∷◌, map, position, Some, refl, ap, ◌∙◌}
use Rattle.std.specs.List.{position_from}
use Rattle.std.proofs.lemmas.Iterator.Adapters.{position_from-zero}

position_from-map : {A B : Type 0} (test : B → Bool) (f : A → B) (at : ℕ) (xs : List A) → position_from (λ x. test (f x)) at xs ≡ position_from test at (map f xs)
position_from-map test f at [] = refl
position_from-map test f at (x ∷ xs) = ap (cond (test (f x)) (Some at)) (position_from-map test f (at + 1) xs)

-- where the mapped list first passes
pub position-map : {A B : Type 0} (test : B → Bool) (f : A → B) (xs : List A) → position (λ x. test (f x)) xs ≡ position_from test 0 (map f xs)
position-map test f xs = position_from-zero (λ x. test (f x)) xs ∙ position_from-map test f 0 xs
