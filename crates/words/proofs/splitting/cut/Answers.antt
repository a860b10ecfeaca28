use Rattle.std.proofs.Common.{◌+◌, ◌==◌, rules, tests, sym, refl, ◌∙◌, arith}
use Rattle.std.proofs.lemmas.List.{take_all, length-drop}
use Rattle.std.proofs.lemmas.Iterator.{YieldsList-from_slice}
use Rattle.std.proofs.lemmas.Iterator.Search.{position_from_yields_List}
use Rattle.words.proofs.Splits.{whole, cut_at}
use Rattle.words.proofs.splitting.cut.Goals as goal

pub returns-in_err-at : goal.returns-in_err-at
returns-in_err-at c =
    let e = position_from_yields_List (λ x. x == c.args.separator) _ _ c.position.result c.position.ensures.ran (YieldsList-from_slice c.args.part.now cc) (λ x b q k. search (rules, tests)) in
    rw c.from_residual.ensures (whole c.args.separator c.args.part.now (sym e ∙ c.in_err-at.was))

pub returns : goal.returns
returns c =
    let e = position_from_yields_List (λ x. x == c.args.separator) _ _ c.position.result c.position.ensures.ran (YieldsList-from_slice c.args.part.now cc) (λ x b q k. search (rules, tests)) in
    cut_at c.args.separator c.in_ok-at.at c.args.part.now _ _ (sym e ∙ c.in_ok-at.was) refl (take_all _ _ (omega (arith, length-drop (c.in_ok-at.at + 1) c.args.part.now)))
