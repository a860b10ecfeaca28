use Rattle.std.proofs.Common.{leb→le, sym}
use Rattle.world.specs.Listed.{listed}
use Rattle.world.specs.Worlds.{draft_of}
use Rattle.world.proofs.Adding.{Behind, goal_taken, goal_added, part_sound, gates_lead, places_lie, counted_with_goal}
use Rattle.world.proofs.draft.Draft.put_goal.Goals as goal

pub put_words-part-requires : goal.put_words-part-requires
put_words-part-requires c = leb→le _ _ (goal_taken c.args.self.now c.args.rule.now (sym c.requires)).1.behind

pub invariant_of-self : goal.invariant_of-self
invariant_of-self c =
    let d = c.args.self.now in
    let t = goal_taken d c.args.rule.now (sym c.requires) in
    let e = c.put_words-part.ensures in
    let p : Behind (listed d.words) c.args.rule.now c.put_words-part.result (listed c.put_words-part.new.words) = record { start = e.start; len = e.len; words = e.words } in record {
      few_of_each = d.few_of_each;
      counted = counted_with_goal d p t.0;
      gates_lead = gates_lead d p;
      places_lie = places_lie d p;
      goal_kept = part_sound p (listed d.kinds) t.1.proper;
      pool_known = d.pool_known;
      stock_known = d.stock_known;
      chains_start = d.chains_start;
      chains_go_on = d.chains_go_on;
    }

pub returns : goal.returns
unfolding draft_of
returns c = let e = c.put_words-part.ensures in goal_added c.args.self.now (record { start = e.start; len = e.len; words = e.words })
