-- A draft that is complete is a world.
use Rattle.std.proofs.Common.{◌≡◌, ◌≤◌, Bool, true, not, ◌&&◌, T, eqb, is_some, IsSome, sym, ap, ◌∙◌, inl, inr, arith}
use Rattle.std.proofs.lemmas.Bool.{and_parts, not-true, cases_lt, eq-eqb, both_ways}
use Rattle.std.proofs.Math.Bool.{not-not}
use Rattle.world.specs.declared.draft.Draft.{Draft}
use Rattle.world.specs.Building.{complete}
use Rattle.world.specs.Listed.{listed}
use Rattle.world.specs.Rows.{goal_sound}
use Rattle.world.specs.Worlds.{regions_of, draft_of}
use Rattle.world.proofs.Adding.{goal_told}

-- completeness, by the tables
pub told_complete : (d : Draft) → (not (eqb (regions_of d) 0) && is_some d.goal) ≡ complete (draft_of d)
unfolding draft_of
told_complete d = ap (λ (b : Bool). not (eqb (regions_of d) 0) && b) (sym (not-not (is_some d.goal)) ∙ ap not (sym (goal_told d)))

pub finished : (d : Draft) → complete (draft_of d) ≡ true → (1 ≤ (regions_of d)) × IsSome d.goal
finished d e =
    let p = and_parts (not (eqb (regions_of d) 0)) _ (told_complete d ∙ e) in
    let some : 1 ≤ (regions_of d) = elim (cases_lt 0 (regions_of d)) [ inl h ↦ h | inr h ↦ absurd (both_ways _ (not-true _ p.0) (eq-eqb (regions_of d) 0 (omega arith))) ] in
    (some, p.1)

-- and the goal that is set is a proper rule
pub finished_sound : (d : Draft) → complete (draft_of d) ≡ true → ((1 ≤ (regions_of d)) × IsSome d.goal) × T (goal_sound (listed d.kinds) (listed d.words) d.goal)
finished_sound d e = (finished d e, d.goal_kept)
