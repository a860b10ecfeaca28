-- Whether each item of the pool lies in a set of places.
use Rattle.std.proofs.Common.{◌≡◌, ℕ, Bool, ◌&&◌, eqb, List, [], ◌∷◌, length, refl, ap, ◌∙◌}
use Rattle.std.specs.List.{list_all, range_with_len}
use Rattle.inventory.specs.Meaning.{Meaning}
use Rattle.model.specs.Marks.{any, every}
use Rattle.model.specs.Worlds.{World as Atlas, stocked}
use Rattle.model.specs.Placements.{Placement, lying, gathered, whole}

-- whether an item lies in a set of places
abbrev pub there : Placement → List Bool → ℕ → Bool
there p s i = any (eqb i) (lying p s)

every_is : (f : ℕ → Bool) (xs : List ℕ) → list_all f xs ≡ every f xs
every_is f [] = refl
every_is f (x ∷ xs) = ap (λ b. f x && b) (every_is f xs)

pub whole_is : (m : Meaning) (w : Atlas) (p : Placement) (v : m.Value) (s : List Bool) (pool : List ℕ) → v ≡ stocked m w → s ≡ gathered m w p v → pool ≡ w.pool → list_all (there p s) (range_with_len 0 (length pool)) ≡ whole m w p
unfolding whole
whole_is m w p v s pool start all same =
    every_is (there p s) _ ∙ ap (λ l. every (there p s) (range_with_len 0 (length l))) same
    ∙ ap (λ t. every (there p t) (range_with_len 0 (length w.pool))) (all ∙ ap (gathered m w p) start)
