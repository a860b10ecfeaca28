-- A pair of lawful inventories is lawful, whichever they are.
use Rattle.std.specs.Prelude.{◌/◌, true, false, cond, T}
use Rattle.inventory.specs.Meaning.{Meaning, Lawful}
use Rattle.inventory.specs.Paired.{on_left, paired}

pub paired_lawful : {l r : Meaning} → Lawful l → Lawful r → Lawful (paired l r)
paired_lawful {l = l} {r = r} p q = record {
  assoc = λ u v w. λ i. (p.assoc u.0 v.0 w.0 i, q.assoc u.1 v.1 w.1 i);
  comm = λ u v. λ i. (p.comm u.0 v.0 i, q.comm u.1 v.1 i);
  neutral = λ v. λ i. (p.neutral v.0 i, q.neutral v.1 i);
  reflexive = λ v. (p.reflexive v.0, q.reflexive v.1);
  transitive = λ u v w a b. (p.transitive u.0 v.0 w.0 a.0 b.0, q.transitive u.1 v.1 w.1 a.1 b.1);
  grows = λ u v. (p.grows u.0 v.0, q.grows u.1 v.1);
  monotone = λ u v w a. (p.monotone u.0 v.0 w.0 a.0, q.monotone u.1 v.1 w.1 a.1);
  keeps = λ u v code n a.
      elim (on_left code) as (λ s. T (cond s (l.meets u.0 (code / 2) n) (r.meets u.1 (code / 2) n)) → T (cond s (l.meets v.0 (code / 2) n) (r.meets v.1 (code / 2) n)))
      [ true ↦ p.keeps u.0 v.0 (code / 2) n a.0 | false ↦ q.keeps u.1 v.1 (code / 2) n a.1 ];
}
