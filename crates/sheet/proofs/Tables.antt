-- What is known of the inside of every table of place records, and what makes another one.
use Rattle.std.proofs.Common.{◌≡◌, ℕ, zero, suc, ◌<◌, ◌≤◌, true, length, set, replicate, Some, None, Option, sym, refl, ◌∙◌, arith, length-set, length-take}
use Rattle.std.proofs.lemmas.Option.{none-some}
use lib.ListN.{length-replicate}
use Rattle.model.specs.Placements.{item_at, Once}
use Rattle.sheet.specs.declared.table.PlaceTable.TheInside.{Inside}
use Rattle.sheet.specs.Inside.{placement_in, Keeps}
use Rattle.sheet.specs.Records.{may_lie}
use Rattle.sheet.specs.Tables.{Sound}
use Rattle.sheet.proofs.Records.{item_within, not_found, may_lie_facts, still_once, still_small, still_none}

none_there : (n k : ℕ) → item_at (replicate n None) k ≡ None
none_there zero k = refl
none_there (suc n) zero = refl
none_there (suc n) (suc k) = none_there n k

nothing_lies : (n k i : ℕ) → item_at (replicate n None) k ≡ Some i → ⊥
nothing_lies n k i e = none-some i (sym (none_there n k) ∙ e)

pub none_keep : (count : ℕ) → count ≤ 256 → Keeps (record { records = replicate 256 None; count = count })
none_keep count few = record {
  room = length-replicate {A = Option ℕ} 256 None;
  few = few;
  none_behind = λ k h. none_there 256 k;
  once = λ j k i a b. absurd (nothing_lies 256 j i a);
  small = λ k i x. absurd (nothing_lies 256 k i x);
}

module _ (t : Inside) (kept : Keeps t) where
  pub item_is : (k : ℕ) → item_at (placement_in t) k ≡ item_at t.records k
  item_is k = item_within t.records t.count k kept.none_behind

  pub count_is : length (placement_in t) ≡ t.count
  count_is = omega (arith, length-take t.count t.records, kept.few, kept.room)

  pub few_places : length (placement_in t) ≤ 256
  few_places = omega (arith, count_is, kept.few)

  pub once_each : Once (placement_in t)
  once_each j k i a b = kept.once j k i (sym (item_is j) ∙ a) (sym (item_is k) ∙ b)

  pub small_items : (k i : ℕ) → item_at (placement_in t) k ≡ Some i → i < 256
  small_items k i e = kept.small k i (sym (item_is k) ∙ e)

  -- so the placement is what callers are told of it
  pub sound : Sound (placement_in t)
  sound = record { few = few_places; once = once_each; small = small_items }

  -- another record at a place among the first m, with an item that lies nowhere yet
  pub change_keeps : (n : ℕ) (o : Option ℕ) (m : ℕ) → n < m → t.count ≤ m → m ≤ 256 → may_lie (placement_in t) o ≡ true → Keeps (record { records = set t.records n o; count = m })
  change_keeps n o m here more few fresh = record {
    room = length-set t.records n o ∙ kept.room;
    few = few;
    none_behind = still_none t.records n o t.count m more here kept.none_behind;
    once = still_once t.records n o kept.once (λ i k e x. not_found (placement_in t) i k (may_lie_facts (placement_in t) o i fresh e).1 (item_is k ∙ x));
    small = still_small t.records n o kept.small (λ i e. (may_lie_facts (placement_in t) o i fresh e).0);
  }
