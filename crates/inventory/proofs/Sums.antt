-- Tables added up: from the front, as a chain of iterators does, and by their codes.
use Rattle.std.proofs.Common.{◌≡◌, ℕ, zero, suc, ◌+◌, ◌<◌, ◌≤◌, false, cond, List, length, get_or, take, sum, refl, ap, ◌∙◌, sym, arith, take_all, add-one, Bool}
use Rattle.std.specs.List.{sum_by, count_by}
use Rattle.std.proofs.lemmas.List.Sums.{sum_by_more}
use Rattle.std.proofs.lemmas.Bool.{cond-true, lt-ltb}
use Rattle.inventory.specs.Keyset.{known, members, set_of}
use Rattle.inventory.specs.Capped.{up_to, levels_of, sum_of_levels}

-- a sum over the codes below n is one over the first n rows, where each code adds what its row does
added : {X : Type 0} (f : X → ℕ) (xs : List X) (d : X) (total : ℕ → ℕ) → total 0 ≡ 0 → ((n : ℕ) → n < length xs → total (suc n) ≡ total n + f (get_or xs n d))
    → (n : ℕ) → n ≤ length xs → total n ≡ sum_by f (take n xs)
added f xs d total none one zero h = none
added f xs d total none one (suc n) h = one n (omega arith) ∙ ap (λ k. k + f (get_or xs n d)) (added f xs d total none one n (omega arith)) ∙ sym (sum_by_more f xs n d (omega arith)) ∙ ap (λ k. sum_by f (take k xs)) (add-one n)

pub counted : (has : List Bool) (n : ℕ) → length has ≡ n → members (set_of has) n ≡ count_by (λ member. member) has
counted has n e = added (λ member. cond member 1 0) has false (members (set_of has)) refl (λ k h. refl) n (omega arith) ∙ ap (λ xs. count_by (λ member. member) xs) (take_all n has (omega arith))

pub summed : (top : ℕ) (level : List ℕ) → length level ≡ 32 → ((c : ℕ) → get_or level c 0 ≤ top) → (n : ℕ) → n ≡ 32 → sum_of_levels (up_to top) (levels_of top level) n ≡ sum level
summed top level e within n m =
    added (λ l. l) level 0 (sum_of_levels (up_to top) (levels_of top level)) refl
    (λ k h. omega (arith, within k, cond-true (known k) top 0 (lt-ltb k 32 (omega arith)))) n (omega arith)
    ∙ ap (λ xs. sum xs) (take_all n level (omega arith))
