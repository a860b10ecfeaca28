-- An inventory that meets nothing: lawful, so no law rules it out, and only the definitions of keys, counts and tiers do.
use Rattle.std.specs.Prelude.{false, refl}
use Rattle.inventory.specs.Meaning.{Meaning, Lawful}

abbrev pub barren : Meaning
barren = record {
  Value = Unit {0};
  neutral = tt;
  join = λ u v. tt;
  Below = λ u v. Unit {0};
  grain = λ code. tt;
  meets = λ v code n. false;
}

pub barren_lawful : Lawful barren
barren_lawful = record {
  assoc = λ u v w. refl;
  comm = λ u v. refl;
  neutral = λ v. refl;
  reflexive = λ v. tt;
  transitive = λ u v w p q. tt;
  grows = λ u v. tt;
  monotone = λ u v w p. tt;
  keeps = λ u v code n p t. t;
}
