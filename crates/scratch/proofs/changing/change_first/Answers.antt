use Rattle.std.proofs.Common.{◌≡◌, ◌++◌, ap, arith, length}
use Rattle.scratch.specs.Lending.{later}
use Rattle.scratch.proofs.Lent.{halves, kept}
use Rattle.scratch.proofs.changing.change_first.Goals as goal

pub returns-in_default-split_first_chunk_mut-clause-few : goal.returns-in_default-split_first_chunk_mut-clause-few
returns-in_default-split_first_chunk_mut-clause-few g c few = halves _ _ _ c.in-Some.ensures.cases.0 c.in-Some.ensures.cases.1

pub returns-in_default-split_first_chunk_mut-clause-later : goal.returns-in_default-split_first_chunk_mut-clause-later
returns-in_default-split_first_chunk_mut-clause-later g c = ap later (halves _ _ _ c.in-Some.ensures.cases.0 c.in-Some.ensures.cases.1)

pub returns-clause-later : goal.returns-clause-later
returns-clause-later g c =
    let total : length (c.work.new.arg2 ++ (c.work.new.arg3 ++ c.in-Some-split_first_chunk_mut._later.now)) ≡ length c.args.bytes.now = omega arith in
    kept c.args.bytes.now _ _ c.in-Some-split_first_chunk_mut._later.now (omega (arith, c.in-Some-split_first_chunk_mut.ensures, c.in-Some.ensures)) (simp (c.in-Some-split_first_chunk_mut.ensures.cases.1, c.in-Some.ensures.cases.1)) total
