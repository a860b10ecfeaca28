use Rattle.std.proofs.Common.{sym, subst}
use Rattle.std.specs.List.{AllByRecursion}
use Rattle.world.specs.Worlds.{KnownGate}
use Rattle.world.proofs.Known.{known_gates}
use Rattle.world.proofs.world.World.gates.Goals as goal

pub returns-clause-known : goal.returns-clause-known
returns-clause-known c = subst (AllByRecursion (KnownGate c.args.self.now)) (sym c.gates.ensures) (known_gates c.args.self.now)
