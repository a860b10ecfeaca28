use Rattle.world.proofs.draft.Draft.new.Goals as goal

-- answered so that the other clauses are tried one by one
pub invariant_of-result-clause-goal_kept : goal.invariant_of-result-clause-goal_kept
invariant_of-result-clause-goal_kept c = tt
