use Rattle.std.proofs.Common.{◌≡◌}
use Rattle.sets.specs.Orders.{members}
use Rattle.sets.specs.Reach.{reach_below}
use Rattle.sets.specs.RowLists.{rows_of}
use Rattle.sets.proofs.rows.Rows.reach.Given as goal

abbrev pub invariant-loop-sheet : goal.invariant-loop-sheet
invariant-loop-sheet l = members l.reached ≡ reach_below (rows_of l.self) l.set.bits l.sheet
