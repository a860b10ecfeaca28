-- Keys are a lawful inventory.
use Rattle.std.specs.Prelude.{◌≡◌, Bool, true, false, ◌&&◌, ◌||◌, T, ◌==◌, refl}
use Rattle.std.proofs.Math.Path.{fun_ext}
use Rattle.inventory.specs.Meaning.{Lawful}
use Rattle.inventory.specs.Keyset.{known, keys}

or_assoc : (a b c : Bool) → ((a || b) || c) ≡ (a || (b || c))
or_assoc true b c = refl
or_assoc false b c = refl

or_comm : (a b : Bool) → (a || b) ≡ (b || a)
or_comm true true = refl
or_comm true false = refl
or_comm false true = refl
or_comm false false = refl

or_left : (a b : Bool) → T a → T (a || b)
or_left true b t = t
or_left false b t = elim t [ ]

or_mono : (a b c : Bool) → (T a → T b) → T (a || c) → T (b || c)
or_mono a true c f t = tt
or_mono true false c f t = elim (f tt) [ ]
or_mono false false c f t = t

pub and_mono : (k a b : Bool) → (T a → T b) → T (k && a) → T (k && b)
and_mono true a b f t = f t
and_mono false a b f t = t

pub keys_lawful : Lawful keys
keys_lawful = record {
  assoc = λ u v w. fun_ext (λ c. or_assoc (u c) (v c) (w c));
  comm = λ u v. fun_ext (λ c. or_comm (u c) (v c));
  neutral = λ v. refl;
  reflexive = λ v c t. t;
  transitive = λ u v w p q c t. q c (p c t);
  grows = λ u v c t. or_left (u c) (v c) t;
  monotone = λ u v w p c. or_mono (u c) (v c) (w c) (p c);
  keeps = λ u v code n p. and_mono (known code) _ _ (and_mono (n == 1) _ _ (p code));
}
