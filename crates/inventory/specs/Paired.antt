-- Two inventories side by side: even codes are the left one's, odd codes the right one's.
use Rattle.std.specs.Prelude.{ℕ, ◌/◌, ◌%◌, Bool, cond, ◌==◌}
use Rattle.inventory.specs.Meaning.{Meaning}

-- whether a code is the left one's
abbrev pub on_left : ℕ → Bool
on_left code = code % 2 == 0

-- half a code is the code on its side; values are joined and compared side by side
abbrev pub paired : Meaning → Meaning → Meaning
paired l r = record {
  Value = l.Value × r.Value;
  neutral = (l.neutral, r.neutral);
  join = λ u v. (l.join u.0 v.0, r.join u.1 v.1);
  Below = λ u v. l.Below u.0 v.0 × r.Below u.1 v.1;
  grain = λ code. cond (on_left code) (l.grain (code / 2), r.neutral) (l.neutral, r.grain (code / 2));
  meets = λ v code n. cond (on_left code) (l.meets v.0 (code / 2) n) (r.meets v.1 (code / 2) n);
}
