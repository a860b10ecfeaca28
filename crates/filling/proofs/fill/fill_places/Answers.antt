use Rattle.std.proofs.Common.{◌+◌, ◌<◌, length, Ok, sym, refl, ap, ◌∙◌, arith, eqb-true, false-eqb}
use Rattle.world.specs.Worlds.{world_of}
use Rattle.filling.specs.Filled.{idle, ending}
use Rattle.filling.proofs.Attempts.{item_fewer, item_set, all_set, attempt_left, attempt_fills, all_fail}
use Rattle.filling.proofs.fill.fill_places.Goals as goal
use Rattle.filling.proofs.fill.fill_places.Goals.{else-attempts-test, then-attempts-test+else-is_empty+in-Err+else-nth-attempts}

pub items-init : goal.items-init
items-init g c =
    let w = world_of c.args.world.now in
    let b = c.begin-attempt.ensures in
    let ending = ending g.I.Inventory.meaning w g.S.DrawSource.draws (g.S.DrawSource.state c.attempts.source) in
    record {
      table = refl;
      world = refl;
      goes_on = rw (b.left, b.table, c.attempts.invariant.table) refl;
    }

pub returns-then-is_empty-clause-filled : goal.returns-then-is_empty-clause-filled
returns-then-is_empty-clause-filled g c =
    let m = g.I.Inventory.meaning in
    let w = world_of c.args.world.now in
    let s = g.S.DrawSource.draws in
    let state = g.S.DrawSource.state in
    let a = c.items.attempt in
    let none = eqb-true (length a.left.items) 0 (sym c.is_empty.ensures ∙ c.if-is_empty.true) in
    sym c.attempts.invariant.goes_on
    ∙ attempt_fills m w s c.args.table.now c.args.attempts c.attempts.nth (state c.attempts.source) _ c.attempts-test.true a.table (state c.items.source)
    (sym c.items.invariant.goes_on ∙ all_set m w s (state c.items.source) a.table a.left.items none)
    ∙ ap (λ k. record { answer = Ok k; board = idle a.table; state = state c.items.source }) (omega arith)

pub items-smaller : goal.items-smaller
items-smaller g c =
    let m = g.I.Inventory.meaning in
    let s = g.S.DrawSource.draws in
    let state = g.S.DrawSource.state in
    let a = c.items.attempt in
    let b = c.set_one.new.self in
    let none = false-eqb _ _ (sym c.if-is_empty.false ∙ c.is_empty.ensures) in
    let some : 0 < length a.left.items = omega (arith, none) in
    let fewer = item_fewer m (world_of a.world.now) s (state c.items.source) a.table a.left.items some (state c.set_one.new.source) b.table b.left.items g.S.DrawSource.fair c.in_default.ensures.step in
    omega arith

pub items-preserved : goal.items-preserved
items-preserved g c =
    let m = g.I.Inventory.meaning in
    let w = world_of c.args.world.now in
    let s = g.S.DrawSource.draws in
    let state = g.S.DrawSource.state in
    let a = c.items.attempt in
    let b = c.set_one.new.self in
    let inv = c.items.invariant in
    let none = false-eqb _ _ (sym c.if-is_empty.false ∙ c.is_empty.ensures) in
    let some : 0 < length a.left.items = omega (arith, none) in
    let step = rw (inv.world ∙ c.begin-attempt.ensures.world) at c.in_default.ensures.step in
    record {
      table = inv.table;
      world = c.set_one.ensures.world ∙ inv.world;
      goes_on = item_set m w s (state c.items.source) a.table a.left.items some (state c.set_one.new.source) b.table b.left.items g.S.DrawSource.fair step ∙ inv.goes_on;
    }

pub attempts-preserved : goal.attempts-preserved
attempts-preserved g c =
    let m = g.I.Inventory.meaning in
    let w = world_of c.args.world.now in
    let s = g.S.DrawSource.draws in
    let state = g.S.DrawSource.state in
    let a = c.items.attempt in
    let b = c.set_one.new.self in
    let before = c.attempts.invariant in
    let inv = c.items.invariant in
    let none = false-eqb _ _ (sym c.if-is_empty.false ∙ c.is_empty.ensures) in
    let some : 0 < length a.left.items = omega (arith, none) in
    let step = rw (inv.world ∙ c.begin-attempt.ensures.world) at c.in-Err.ensures.step in
    record {
      table = inv.table ∙ before.table;
      goes_on = attempt_left m w s c.args.table.now c.args.attempts c.attempts.nth (state c.attempts.source) _ c.attempts-test.true a.table (state c.items.source) a.left.items inv.goes_on some (state c.set_one.new.source) b.table b.left.items c.in-Err.none.item step ∙ before.goes_on;
    }

pub returns-clause-filled : goal.returns-clause-filled
returns-clause-filled g c =
    let m = g.I.Inventory.meaning in
    let w = world_of c.args.world.now in
    let s = g.S.DrawSource.draws in
    let state = g.S.DrawSource.state in
    let start = c.args.table.now in
    let before = c.attempts.invariant in
    elim c.attempts-test.branch [
      | else-attempts-test x ↦ rw (c.unwrap_or.ensures, x.last-is, x.table-is, x.source-is, before.table)
          (sym before.goes_on ∙ all_fail m w s start _ c.attempts.nth (state c.attempts.source) _ (omega arith))
      | then-attempts-test+else-is_empty+in-Err+else-nth-attempts x ↦
          let a = x.items.attempt in
          let b = x.set_one.new.self in
          let inv = x.items.invariant in
          let none = false-eqb _ _ (sym x.if-is_empty.false ∙ x.is_empty.ensures) in
          let some : 0 < length a.left.items = omega (arith, none) in
          let step = rw (inv.world ∙ x.begin-attempt.ensures.world) at x.in-Err.ensures.step in
          let left_at = attempt_left m w s start c.args.attempts c.attempts.nth (state c.attempts.source) _ x.attempts-test.true a.table (state x.items.source) a.left.items inv.goes_on some (state x.set_one.new.source) b.table b.left.items x.in-Err.none.item step in
          rw (c.unwrap_or.ensures, x.last-is, x.table-is, x.source-is, inv.table, before.table)
          (sym before.goes_on ∙ sym left_at ∙ all_fail m w s start _ (c.attempts.nth + 1) (state x.set_one.new.source) x.in-Err.none.item (omega arith))
    ]
