-- The number of the refusal for too few marks.
use Rattle.std.specs.Prelude.{ℕ}
use Rattle.scratch.specs.declared.few_marks.FewMarks.{FewMarks}

abbrev pub number_of : FewMarks → ℕ
number_of few = 19
