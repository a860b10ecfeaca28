-- A table is given back by the placement that it holds.
use Rattle.std.proofs.Common.{◌≡◌, ℕ, zero, suc, ◌+◌, ◌≤◌, [], ◌∷◌, ◌++◌, length, take, replicate, None, Option, sym, refl, ap, ◌∙◌, ap₂, arith, length-take}
use Rattle.model.specs.Placements.{Placement, item_at}
use Rattle.sheet.specs.declared.table.PlaceTable.TheInside.{Inside}
use Rattle.sheet.specs.Inside.{placement_in, Keeps, table_of}

all_none : (p : Placement) → ((k : ℕ) → item_at p k ≡ None) → replicate (length p) None ≡ p
all_none [] none = refl
all_none (o ∷ p) none = ap₂ (λ x (l : Placement). x ∷ l) (sym (none 0)) (all_none p (λ k. none (suc k)))

rest_none : (p : Placement) (n m : ℕ) → n + m ≡ length p → ((k : ℕ) → n ≤ k → item_at p k ≡ None) → take n p ++ replicate m None ≡ p
rest_none p zero m e none = ap (λ k. replicate {A = Option ℕ} k None) (let e' : m ≡ length p = omega arith in e') ∙ all_none p (λ k. none k (omega arith))
rest_none [] (suc n) m e none = absurd (omega arith)
rest_none (o ∷ p) (suc n) m e none = ap (λ (l : Placement). o ∷ l) (rest_none p n m (omega arith) (λ k h. none (suc k) (omega arith)))

pub given_back : (t : Inside) → Keeps t → table_of (placement_in t) ≡ t
given_back t k =
    let counted : length (placement_in t) ≡ t.count = omega (arith, length-take t.count t.records, k.room, k.few) in
    ap₂ (λ (records : Placement) (count : ℕ). record { records = records; count = count }) (rest_none t.records t.count _ (omega (arith, counted, k.room, k.few)) k.none_behind) counted
