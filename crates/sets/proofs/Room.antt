-- What every set of orders and all rows of a job keep to.
use Rattle.std.proofs.Common.{ℕ, zero, suc, ◌^◌, ◌<◌, ◌≤◌, List, [], ◌∷◌, map, length, get_or, take, arith}
use Rattle.sets.specs.declared.orders.OrderSet.{OrderSet}
use Rattle.sets.specs.declared.rows.Rows.{Rows}
use Rattle.sets.specs.Orders.{members, room}
use Rattle.sets.specs.Reach.{reach}
use Rattle.sets.specs.RowLists.{rows_of}
use Rattle.sets.proofs.Reached.{reach_below_lem}
use Rattle.sets.proofs.RowLists.{rows_length}

-- there is at least one sheet, and at most 16
pub some_rows : (r : Rows) → 1 ≤ length (rows_of r)
some_rows r = omega (arith, r.some, rows_length r.rows r.count (omega (arith, r.few, r.whole)))

pub few_rows : (r : Rows) → length (rows_of r) ≤ 16
few_rows r = omega (arith, r.few, rows_length r.rows r.count (omega (arith, r.few, r.whole)))

row_below : (sets : List OrderSet) (p : ℕ) → get_or (map members sets) p 0 < 2 ^ room
row_below [] p = omega arith
row_below (s ∷ sets) zero = s.fits
row_below (s ∷ sets) (suc p) = row_below sets p

-- no reach has an order past the room
pub reach_in_room : (r : Rows) (S : ℕ) → reach (rows_of r) S < 2 ^ room
reach_in_room r S = reach_below_lem (rows_of r) room S (row_below (take r.count r.rows))
