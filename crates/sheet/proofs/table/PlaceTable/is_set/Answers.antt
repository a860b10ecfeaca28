use Rattle.std.proofs.Common.{◌≡◌, ℕ, suc, ◌<◌, Option, [], ◌∷◌, length, true, eqb, Some, None, slice_index_or, sym, ap, ◌∙◌, inl, inr, arith, rules, tests}
use Rattle.std.proofs.lemmas.Bool.{false≢true, or_cases, eqb-true}
use Rattle.std.proofs.lemmas.List.{get_or_default}
use Rattle.model.specs.Placements.{Placement, item_at}
use Rattle.model.specs.Boards.{is_set}
use Rattle.sheet.specs.Tables.{Sound}
use Rattle.sheet.proofs.Records.{found_is, found_set, set_small}
use Rattle.sheet.proofs.table.PlaceTable.is_set.Goals as goal

-- an item that is read at a place, whatever is read past the last, is set
found_at : (p : Placement) (i k : ℕ) (d : Option ℕ) → slice_index_or p k d ≡ Some i → k < length p → is_set p i ≡ true
found_at p i k d e h = found_set p i k (get_or_default p k None d h ∙ e)

-- an item that is set lies at some place
set_somewhere : (p : Placement) (i : ℕ) → is_set p i ≡ true → (k : ℕ) × (k < length p) × (item_at p k ≡ Some i)
unfolding is_set
set_somewhere [] i e = absurd (false≢true e)
set_somewhere (None ∷ p) i e = let r = set_somewhere p i e in (suc r.0, omega (arith, r.1), r.2)
set_somewhere (Some j ∷ p) i e =
    elim (or_cases (eqb i j) (is_set p i) e) [
      | inl same ↦ (0, omega arith, ap Some (sym (eqb-true i j same)))
      | inr later ↦ let r = set_somewhere p i later in (suc r.0, omega (arith, r.1), r.2)
    ]

-- the search of the whole list, or one that goes from place to place
pub returns-clause-answer : goal.returns-clause-answer
returns-clause-answer c = search (rules, tests, found_is, found_at, set_somewhere)

pub returns-clause-small : goal.returns-clause-small
returns-clause-small c e =
    let sound : Sound c.args.self.now = search rules in
    set_small c.args.self.now c.args.item sound.small (sym (returns-clause-answer c) ∙ e)
