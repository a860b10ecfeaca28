use Rattle.std.proofs.Common.{◌++◌, length, drop, ap, ◌∙◌, arith}
use Rattle.model.specs.Placements.{Placement}
use Rattle.sheet.specs.Files.{file_of}
use Rattle.sheet.proofs.Writing.{length_file, entry_small, one_more, finished}
use Rattle.sheet.proofs.sheet.write.put_file.Goals as goal

pub put_number-requires : goal.put_number-requires
put_number-requires c = omega (arith, c.requires, length_file c.args.table.now)

pub loop-place-init : goal.loop-place-init
loop-place-init c = c.put_number.ensures

pub entry-requires : goal.entry-requires
entry-requires c = entry_small c.placement-placement.result.now c.placement-placement.ensures.small c.loop-place.place

pub put_number-requires-in-loop-place : goal.put_number-requires-in-loop-place
put_number-requires-in-loop-place c = omega (arith, c.requires, length_file c.args.table.now, ap length c.placement-placement.ensures.records, c.loop-place-test.true, c.loop-place.auto.buffer, c.put_number.auto.buffer)

pub loop-place-preserved : goal.loop-place-preserved
loop-place-preserved c =
    c.put_number-in-loop-place.ensures ∙ one_more c.placement-placement.result.now c.args.buffer.now c.loop-place.buffer c.loop-place.place c.entry.result c.loop-place.invariant c.loop-place-test.true c.entry.ensures

pub returns : goal.returns
returns c =
    finished c.placement-placement.result.now c.args.buffer.now c.loop-place.buffer c.loop-place.place c.loop-place.invariant (omega arith)
    ∙ ap (λ (p : Placement). file_of p ++ drop (length (file_of p)) c.args.buffer.now) c.placement-placement.ensures.records
