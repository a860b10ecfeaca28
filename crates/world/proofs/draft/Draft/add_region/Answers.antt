use Rattle.std.proofs.Common.{◌≡◌, ℕ, ◌<◌, T, List, [], ◌∷◌, ◌++◌, length, get_or, None, Option, arith, length-append}
use Rattle.model.specs.Marks.{every}
use Rattle.world.specs.Listed.{listed}
use Rattle.world.specs.Rows.{gate_sound, place_sound, last_leaving}
use Rattle.world.specs.Worlds.{regions_of}
use Rattle.world.specs.declared.draft.Draft.{Draft}
use Rattle.world.proofs.Chains.{new_chain}
use Rattle.world.proofs.Growing.{Grows, region_more, gates_grow, places_grow}
use Rattle.world.proofs.Making.{pushed_or_kept}
use Rattle.world.proofs.draft.Draft.add_region.Goals as goal

grown : (d : Draft) → Grows (regions_of d) (listed d.kinds) (listed d.words) (length (listed d.latest ++ None ∷ [])) (listed d.kinds) (listed d.words)
grown d = region_more (regions_of d) _ (listed d.kinds) (listed d.words) (omega (arith, length-append (listed d.latest) (None ∷ [])))

pub invariant_of-self-clause-gates_lead : goal.invariant_of-self-clause-gates_lead
invariant_of-self-clause-gates_lead c =
    let d = c.args.self.now in
    let e = c.push.ensures in
    pushed_or_kept (λ (ls : List (Option ℕ)). T (every (gate_sound (length ls) (listed d.kinds) (listed d.words)) (listed d.gates))) c.push.result d.latest c.push.new.self None e.rows e.kept d.gates_lead
    (gates_grow (grown d) (listed d.gates) d.gates_lead)

pub invariant_of-self-clause-places_lie : goal.invariant_of-self-clause-places_lie
invariant_of-self-clause-places_lie c =
    let d = c.args.self.now in
    let e = c.push.ensures in
    pushed_or_kept (λ (ls : List (Option ℕ)). T (every (place_sound (length ls) (listed d.kinds) (listed d.words)) (listed d.places))) c.push.result d.latest c.push.new.self None e.rows e.kept d.places_lie
    (places_grow (grown d) (listed d.places) d.places_lie)

pub invariant_of-self-clause-chains_start : goal.invariant_of-self-clause-chains_start
invariant_of-self-clause-chains_start c =
    let d = c.args.self.now in
    let e = c.push.ensures in
    pushed_or_kept (λ (ls : List (Option ℕ)). (r : ℕ) → r < length ls → get_or ls r None ≡ last_leaving (listed d.gates) r (length (listed d.gates))) c.push.result d.latest c.push.new.self None e.rows e.kept d.chains_start
    (new_chain (listed d.kinds) (listed d.words) (listed d.gates) (listed d.latest) d.gates_lead d.chains_start)
