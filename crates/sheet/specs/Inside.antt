-- What a table of place records is inside, and the placement that it is.
use Rattle.std.specs.Prelude.{◌≡◌, ℕ, ◌-◌, ◌<◌, ◌≤◌, ◌++◌, length, take, replicate, Some, None}
use Rattle.model.specs.Placements.{Placement, item_at, Once}
use Rattle.sheet.specs.declared.table.PlaceTable.TheInside.{Inside}

-- the placement that a table holds
abbrev pub placement_in : Inside → Placement
placement_in t = take t.count t.records

-- what a table keeps, of its records and its count
pub record Keeps (t : Inside) : Type 0 where
  pub room : length t.records ≡ 256
  pub few : t.count ≤ 256
  pub none_behind : (k : ℕ) → t.count ≤ k → item_at t.records k ≡ None
  pub once : Once t.records
  pub small : (k i : ℕ) → item_at t.records k ≡ Some i → i < 256

-- the table that holds a placement, with none behind it
abbrev pub table_of : Placement → Inside
table_of p = record { records = p ++ replicate (256 - length p) None; count = length p }
