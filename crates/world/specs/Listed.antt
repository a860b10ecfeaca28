-- The rows of a table, in order.
use Rattle.std.specs.Prelude.{ℕ, List, vec_items}
use Rattle.world.specs.declared.table.Table.{Table}

abbrev pub listed : {T : Type 0} {max : ℕ} → Table T max → List T
listed t = vec_items t.rows
