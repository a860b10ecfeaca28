use Rattle.std.proofs.Common.{sym, subst}
use Rattle.std.specs.List.{AllByRecursion}
use Rattle.world.specs.Worlds.{KnownPlace}
use Rattle.world.proofs.Known.{known_places}
use Rattle.world.proofs.world.World.places.Goals as goal

pub returns-clause-known : goal.returns-clause-known
returns-clause-known c = subst (AllByRecursion (KnownPlace c.args.self.now)) (sym c.places.ensures) (known_places c.args.self.now)
