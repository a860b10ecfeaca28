-- What is known of a world's rows.
use Rattle.std.proofs.Common.{ℕ, T, ltb, List, refl, leb→le}
use Rattle.world.specs.Listed.{listed}
use Rattle.std.specs.List.{AllByRecursion}
use Rattle.model.specs.declared.rule_word.RuleWord.{RuleWord}
use Rattle.model.specs.Rules.{formed}
use Rattle.model.proofs.Sets.{and_both}
use Rattle.model.proofs.Limits.{every_all, rule_facts}
use Rattle.world.specs.declared.rows.Part.{Part}
use Rattle.world.specs.declared.rows.Gate.{Gate}
use Rattle.world.specs.declared.rows.Place.{Place}
use Rattle.world.specs.declared.world.World.{World}
use Rattle.world.specs.Rows.{inside, words, rule_sound, gate_sound, place_sound}
use Rattle.world.specs.Worlds.{regions_of, draft_of, world_of, rule_at, gateway, spot, KnownGate, KnownPlace}

pub sound_formed : (kinds : List ℕ) (table : List RuleWord) (part : Part) → T (rule_sound kinds table part) → T (formed (words table part))
sound_formed kinds table part t = (rule_facts kinds (words table part) (and_both (inside table part) _ t).1).well_formed

module _ (w : World) where
  abbrev kinds : List ℕ
  kinds = listed w.made.kinds

  abbrev table : List RuleWord
  table = listed w.made.words

  known_gate : (g : Gate) → T (gate_sound (regions_of w.made) kinds table g) → KnownGate w g
  unfolding draft_of world_of rule_at gateway
  known_gate g t =
      let p = and_both (ltb g.near (regions_of w.made)) _ t in
      let q = and_both (ltb g.far (regions_of w.made)) _ p.1 in
      record { near_known = leb→le _ _ p.0; far_known = leb→le _ _ q.0; rule_formed = sound_formed kinds table g.rule q.1; stands_for = refl }

  known_place : (q : Place) → T (place_sound (regions_of w.made) kinds table q) → KnownPlace w q
  unfolding draft_of world_of rule_at spot
  known_place q t =
      let p = and_both (ltb q.region (regions_of w.made)) _ t in
      record { region_known = leb→le _ _ p.0; rule_formed = sound_formed kinds table q.rule p.1; stands_for = refl }

  pub known_gates : AllByRecursion (KnownGate w) (listed w.made.gates)
  known_gates = every_all (gate_sound (regions_of w.made) kinds table) (KnownGate w) known_gate (listed w.made.gates) w.made.gates_lead

  pub known_places : AllByRecursion (KnownPlace w) (listed w.made.places)
  known_places = every_all (place_sound (regions_of w.made) kinds table) (KnownPlace w) known_place (listed w.made.places) w.made.places_lie
