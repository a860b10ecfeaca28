use Rattle.std.proofs.Common.{leb→le, ◌≡◌, T, ltb, List, length, sym, refl, ◌∙◌, subst}
use Rattle.model.specs.Marks.{every}
use Rattle.model.proofs.Sets.{and_from, true_if}
use Rattle.world.specs.declared.rows.Place.{Place}
use Rattle.world.specs.Listed.{listed}
use Rattle.world.specs.Rows.{place_sound, words_of}
use Rattle.world.specs.Worlds.{regions_of, draft_of}
use Rattle.world.proofs.Adding.{Behind, place_taken, place_added, part_sound, gates_lead, places_lie, goal_kept, counted_with_place}
use Rattle.world.proofs.Growing.{every_push}
use Rattle.world.proofs.Making.{with_room}
use Rattle.world.proofs.draft.Draft.put_place.Goals as goal

pub put_words-part-requires : goal.put_words-part-requires
put_words-part-requires c = leb→le _ _ (place_taken c.args.self.now c.args.rule.now c.args.region (sym c.requires)).1.behind

pub unwrap-requires : goal.unwrap-requires
unwrap-requires c = c.push.ensures.fits ∙ true_if _ (place_taken c.args.self.now c.args.rule.now c.args.region (sym c.requires)).1.roomy

pub invariant_of-self : goal.invariant_of-self
invariant_of-self c =
    let d = c.args.self.now in
    let t = place_taken d c.args.rule.now c.args.region (sym c.requires) in
    let e = c.put_words-part.ensures in
    let p : Behind (listed d.words) c.args.rule.now c.put_words-part.result (listed c.put_words-part.new.words) = record { start = e.start; len = e.len; words = e.words } in
    let q : Place = record { region = c.args.region; rule = c.put_words-part.result } in
    let sound = place_sound (regions_of d) (listed d.kinds) (listed c.put_words-part.new.words) in
    let rows = with_room c.push.result _ c.push.ensures.fits t.1.roomy c.push.ensures.rows in record {
      few_of_each = d.few_of_each;
      counted = subst (λ (qs : List Place). words_of (listed d.gates) qs d.goal ≡ length (listed c.put_words-part.new.words)) (sym rows) (counted_with_place d p q refl);
      gates_lead = gates_lead d p;
      places_lie = subst (λ (qs : List Place). T (every sound qs)) (sym rows) (every_push sound (listed d.places) q (places_lie d p) (and_from (ltb c.args.region (regions_of d)) _ t.0 (part_sound p (listed d.kinds) t.1.proper)));
      goal_kept = goal_kept d p;
      pool_known = d.pool_known;
      stock_known = d.stock_known;
      chains_start = d.chains_start;
      chains_go_on = d.chains_go_on;
    }

pub returns : goal.returns
unfolding draft_of
returns c =
    let d = c.args.self.now in
    let t = place_taken d c.args.rule.now c.args.region (sym c.requires) in
    let e = c.put_words-part.ensures in
    place_added d (record { start = e.start; len = e.len; words = e.words }) c.args.region _ refl (with_room c.push.result _ c.push.ensures.fits t.1.roomy c.push.ensures.rows)
