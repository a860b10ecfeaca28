use Rattle.std.proofs.Common.{◌<◌, length, refl, ◌∙◌, arith, length-set}
use Rattle.scratch.specs.Held.{held, room}
use Rattle.scratch.proofs.Stacks.{pushed, waiting}
use Rattle.scratch.proofs.stack.Stack.push.Goals as goal

pub returns : goal.returns
unfolding held room
returns g c =
    let cells = c.args.self.now.cells.now in
    let len = c.args.self.now.len in
    let free : len < length cells = omega arith in
    record {
      cases = (pushed cells len c.args.value free, omega (arith, waiting cells len (omega arith)));
      room = length-set cells len c.args.value;
    }

pub returns-then-self : goal.returns-then-self
unfolding held room
returns-then-self g c = record {
  cases = (refl, refl, waiting c.args.self.now.cells.now c.args.self.now.len (omega arith) ∙ omega arith);
  room = refl;
}
