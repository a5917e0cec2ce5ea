-- The rows of a job as a list of numbers, sheet 0 first.
use Rattle.std.specs.Prelude.{ℕ, List, map, take}
use Rattle.sets.specs.declared.rows.Rows.{Rows}
use Rattle.sets.specs.Orders.{members}

abbrev pub rows_of : Rows → List ℕ
rows_of r = map members (take r.count r.rows)
