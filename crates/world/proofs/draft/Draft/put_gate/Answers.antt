use Rattle.std.proofs.Common.{◌≡◌, ℕ, ◌<◌, T, ltb, List, length, get_or, set, Some, None, Option, sym, refl, ap, ◌∙◌, subst, ap₂, leb→le, length-set}
use Rattle.model.specs.Marks.{every}
use Rattle.model.proofs.Sets.{and_from, true_if}
use Rattle.world.specs.declared.rows.Gate.{Gate}
use Rattle.world.specs.Listed.{listed}
use Rattle.world.specs.Rows.{atlas, gate_sound, place_sound, words_of, last_leaving}
use Rattle.world.specs.Worlds.{regions_of, draft_of, Chained}
use Rattle.world.proofs.Adding.{Behind, gate_taken, gate_added, part_sound, gates_lead, places_lie, goal_kept, counted_with_gate}
use Rattle.world.proofs.Chains.{chains_start, chains_go_on}
use Rattle.world.proofs.Growing.{every_push}
use Rattle.world.proofs.Making.{back, with_room}
use Rattle.world.proofs.draft.Draft.put_gate.Goals as goal

pub put_words-part-requires : goal.put_words-part-requires
put_words-part-requires c = leb→le _ _ (gate_taken c.args.self.now c.args.rule.now c.args.near c.args.far (sym c.requires)).1.behind

pub unwrap-requires : goal.unwrap-requires
unwrap-requires c = c.push.ensures.fits ∙ true_if _ (gate_taken c.args.self.now c.args.rule.now c.args.near c.args.far (sym c.requires)).1.roomy

pub invariant_of-self : goal.invariant_of-self
invariant_of-self c =
    let d = c.args.self.now in
    let t = gate_taken d c.args.rule.now c.args.near c.args.far (sym c.requires) in
    let e = c.put_words-part.ensures in
    let p : Behind (listed d.words) c.args.rule.now c.put_words-part.result (listed c.put_words-part.new.words) = record { start = e.start; len = e.len; words = e.words } in
    let g : Gate = record { near = c.args.near; far = c.args.far; rule = c.put_words-part.result; earlier = c.get_or-earlier.result } in
    let near : c.args.near < (regions_of d) = leb→le _ _ t.0.0 in
    let rows = with_room c.push.result _ c.push.ensures.fits t.1.roomy c.push.ensures.rows in
    let el : listed c.replace.new.self ≡ set (listed d.latest) c.args.near (Some (length (listed d.gates))) =
    c.replace.ensures ∙ ap₂ (λ (k n : ℕ). set (listed d.latest) k (Some n)) c.from-leaving.ensures c.len-at.ensures in
    let en : length (listed c.replace.new.self) ≡ regions_of d = ap length el ∙ length-set (listed d.latest) c.args.near (Some (length (listed d.gates))) in
    let sound = λ (n : ℕ). gate_sound n (listed d.kinds) (listed c.put_words-part.new.words) in
    let new = and_from (ltb c.args.near (regions_of d)) _ t.0.0 (and_from (ltb c.args.far (regions_of d)) _ t.0.1 (part_sound p (listed d.kinds) t.1.proper)) in record {
      few_of_each = d.few_of_each;
      counted = subst (λ (gs : List Gate). words_of gs (listed d.places) d.goal ≡ length (listed c.put_words-part.new.words)) (sym rows) (counted_with_gate d p g refl);
      gates_lead = back (λ (n : ℕ) (gs : List Gate). T (every (sound n) gs)) en rows (every_push (sound (regions_of d)) (listed d.gates) g (gates_lead d p) new);
      places_lie = subst (λ (n : ℕ). T (every (place_sound n (listed d.kinds) (listed c.put_words-part.new.words)) (listed d.places))) (sym en) (places_lie d p);
      goal_kept = goal_kept d p;
      pool_known = d.pool_known;
      stock_known = d.stock_known;
      chains_start = back (λ (ls : List (Option ℕ)) (gs : List Gate). (r : ℕ) → r < length ls → get_or ls r None ≡ last_leaving gs r (length gs)) el rows (chains_start (listed d.gates) g (listed d.latest) near d.chains_start);
      chains_go_on = subst Chained (sym rows) (chains_go_on (listed d.gates) g (c.get_or-earlier.ensures ∙ ap (λ (k : ℕ). get_or (listed d.latest) k None) c.from-leaving.ensures ∙ d.chains_start c.args.near near) d.chains_go_on);
    }

pub returns : goal.returns
unfolding draft_of
returns c =
    let d = c.args.self.now in
    let t = gate_taken d c.args.rule.now c.args.near c.args.far (sym c.requires) in
    let e = c.put_words-part.ensures in
    let en : length (listed c.replace.new.self) ≡ regions_of d = ap length c.replace.ensures ∙ length-set (listed d.latest) c.from-leaving.result _ in
    ap (λ (n : ℕ). atlas n (listed d.kinds) (listed c.push.new.self) (listed d.places) (listed c.put_words-part.new.words) (listed d.pool) (listed d.stock) d.goal) en
    ∙ gate_added d (record { start = e.start; len = e.len; words = e.words }) c.args.near c.args.far c.get_or-earlier.result _ refl (with_room c.push.result _ c.push.ensures.fits t.1.roomy c.push.ensures.rows)
