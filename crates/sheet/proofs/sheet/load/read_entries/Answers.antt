use Rattle.std.proofs.Common.{◌≤◌, length, sym, ap, ◌∙◌, rules}
use Rattle.std.proofs.lemmas.Result.{err_from_is_err_and}
use Rattle.sheet.specs.Files.{item_of}
use Rattle.sheet.proofs.Entries.{refused_next, seen_next, seen_all}
use Rattle.sheet.proofs.sheet.load.read_entries.Goals as goal

pub returns-in_err-check_entry : goal.returns-in_err-check_entry
returns-in_err-check_entry c =
    let two : 2 ≤ length c.loop-left.left.now = search rules in
    let p = err_from_is_err_and c.from_residual.result c.from_residual.ensures.1 in
    rw (p.1, p.2) (refused_next c.args.pool c.loop-left.table c.loop-left.left.now c.args.bytes.now c.item_of-next.result c.loop-left.invariant (c.item_of-next.ensures ∙ ap item_of c.number.ensures) two _ (sym c.in_err-check_entry.ensures))

pub loop-left-preserved : goal.loop-left-preserved
loop-left-preserved c =
    let two : 2 ≤ length c.loop-left.left.now = search rules in
    seen_next c.args.pool c.loop-left.table c.loop-left.left.now c.args.bytes.now c.item_of-next.result c.loop-left.invariant (c.item_of-next.ensures ∙ ap item_of c.number.ensures) two _ (sym c.in_ok-check_entry.ensures) c.push.ensures

pub returns : goal.returns
returns c =
    let few : length c.loop-left.left.now ≤ 1 = search rules in
    seen_all c.args.pool c.loop-left.table c.loop-left.left.now c.args.bytes.now c.loop-left.invariant few
