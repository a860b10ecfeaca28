use Rattle.std.proofs.Common.{◌&&◌, refl, ◌∙◌, rules, tests}
use Rattle.std.specs.List.{list_all}
use Rattle.std.proofs.lemmas.Iterator.{YieldsList-from_slice}
use Rattle.std.proofs.lemmas.Iterator.Search.{all_from_yields_List}
use Rattle.std.proofs.lemmas.List.Recursion.{same_from_clauses}
use Rattle.model.specs.Marks.{every}
use Rattle.model.specs.Proper.{names_kinds}
use Rattle.world.specs.Listed.{listed}
use Rattle.world.proofs.draft.Draft.has_kinds_of.Goals as goal

pub returns : goal.returns
returns c =
    let kinds = listed c.args.self.now.kinds in
    let rule = c.args.rule.now in
    all_from_yields_List (names_kinds kinds) _ _ c.all.result c.all.ensures.ran (YieldsList-from_slice rule cc) (λ x b q k. search (rules, tests))
    ∙ same_from_clauses (list_all (names_kinds kinds)) (every (names_kinds kinds)) (λ x rest. names_kinds kinds x && rest) refl (λ _ _. refl) (λ _ _. refl) rule
