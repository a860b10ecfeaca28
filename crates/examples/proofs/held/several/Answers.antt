use Rattle.std.proofs.Common.{◌≡◌, ℕ, zero, suc, replicate, refl, ap, ◌∙◌}
use Rattle.std.proofs.Math.Numerals.{add-one}
use Rattle.inventory.specs.Meaning.{Meaning, with_codes}
use Rattle.examples.proofs.held.several.Goals as goal

-- one item of the code more
one_more : (m : Meaning) (v : m.Value) (code times : ℕ) → m.join (with_codes m v (replicate times code)) (m.grain code) ≡ with_codes m v (replicate (suc times) code)
one_more m v code zero = refl
one_more m v code (suc times) = one_more m (m.join v (m.grain code)) code times

pub loop-preserved : goal.loop-preserved
loop-preserved g c =
    let m = g.I.Inventory.meaning in
    rw add-one (c.add.ensures ∙ ap (λ v. m.join v (m.grain c.args.code)) c.loop.invariant ∙ one_more m m.neutral c.args.code c.loop.counter)
