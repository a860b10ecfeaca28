use Rattle.std.proofs.Common.{◌<◌, set, Some, length, sym, refl, ap, ◌∙◌, subst, arith, eqb-true, false-eqb}
use Rattle.model.specs.Fills.{candidates}
use Rattle.world.specs.Worlds.{world_of}
use Rattle.filling.specs.Steps.{Fresh, picked, others}
use Rattle.filling.proofs.Freshly.{picked_fresh, others_fresh, set_fresh}
use Rattle.filling.proofs.Passing.{drawn_empty}
use Rattle.filling.proofs.attempt.Attempt.set_one.Goals as goal

pub invariant_of-self : goal.invariant_of-self
invariant_of-self g c =
    let a = c.args.self.now in
    record { fresh = rw c.pick-index.ensures.others (others_fresh g.S.DrawSource.draws g.S.DrawSource.fair _ a.table a.left.items c.requires.some a.fresh) }

pub invariant_of-self-then-is_empty : goal.invariant_of-self-then-is_empty
invariant_of-self-then-is_empty g c = record { fresh = subst (Fresh c.args.self.now.table) (sym (c.insert.ensures.items ∙ c.pick-index.ensures.back)) c.args.self.now.fresh }

pub returns-then-is_empty-clause-step : goal.returns-then-is_empty-clause-step
returns-then-is_empty-clause-step g c =
    let found = c.candidates-found.ensures ∙ ap (candidates g.I.Inventory.meaning (world_of c.args.self.now.world.now) c.args.self.now.table) c.pick-index.ensures.others in
    record {
      none = ap length (sym found) ∙ eqb-true _ _ (sym c.is_empty.ensures ∙ c.if-is_empty.true);
      drawn = c.pick-index.ensures.item;
      rest = c.insert.ensures.items ∙ c.pick-index.ensures.back;
      state = c.pick-index.ensures.state;
      placement = refl;
    }

pub lay-requires : goal.lay-requires
lay-requires g c =
    let s = g.S.DrawSource.draws in
    let fair = g.S.DrawSource.fair in
    let a = c.args.self.now in
    let fresh = picked_fresh s fair _ a.table a.left.items c.requires.some a.fresh in
    let none = false-eqb _ _ (sym c.if-is_empty.false ∙ c.is_empty.ensures) in
    let some : 0 < length c.candidates-found.result.items = omega (arith, none) in
    record {
      empty = rw c.pick-place.ensures.item (drawn_empty s fair _ g.I.Inventory.meaning (world_of a.world.now) a.table c.pick-index.new.left.items _ c.candidates-found.ensures some);
      small = rw c.pick-index.ensures.item fresh.0;
      unset = rw c.pick-index.ensures.item fresh.1;
    }

pub invariant_of-self-2 : goal.invariant_of-self-2
invariant_of-self-2 g c =
    let a = c.args.self.now in
    record { fresh = rw (c.lay.ensures, c.pick-index.ensures.item, c.pick-index.ensures.others) (set_fresh g.S.DrawSource.draws g.S.DrawSource.fair _ a.table a.left.items c.requires.some a.fresh _) }

pub returns-clause-step : goal.returns-clause-step
unfolding picked
returns-clause-step g c =
    let s = g.S.DrawSource.draws in
    let state = g.S.DrawSource.state in
    let a = c.args.self.now in
    let w = world_of a.world.now in
    let left = a.left.items in
    let those = candidates g.I.Inventory.meaning w a.table (others s (state c.args.source.now) left) in
    let found = c.candidates-found.ensures ∙ ap (candidates g.I.Inventory.meaning w a.table) c.pick-index.ensures.others in
    let none = false-eqb _ _ (sym c.if-is_empty.false ∙ c.is_empty.ensures) in
    let size = ap length found in
    let at = c.pick-place.ensures.item ∙ ap (picked s (state c.pick-index.new.source)) found ∙ ap (λ x. picked s x those) c.pick-index.ensures.state in
    let after = c.pick-place.ensures.state ∙ ap (λ l. s.after (state c.pick-index.new.source) (length l)) found ∙ ap (λ x. s.after x (length those)) c.pick-index.ensures.state in
    record {
      some = omega (arith, none);
      rest = c.pick-index.ensures.others;
      state = after;
      placement = c.lay.ensures ∙ ap (λ k. set a.table k (Some c.pick-index.result.item)) at ∙ ap (λ i. set a.table (picked s (s.after (state c.args.source.now) (length left)) those) (Some i)) c.pick-index.ensures.item;
    }
