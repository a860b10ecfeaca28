-- What a question that is asked with lent marks answers.
use Rattle.std.specs.Prelude.{ℕ, cond, Ok, Err, Result, nat_lt}
use Rattle.scratch.specs.Lending.{work_marks}
use Rattle.scratch.specs.declared.few_marks.FewMarks.{FewMarks}

-- refused where fewer marks are lent than a call works with, else the answer
abbrev pub asked : {T : Type 0} → ℕ → T → Result T FewMarks
asked lent answer = cond (nat_lt lent work_marks) (Err (record {})) (Ok answer)
