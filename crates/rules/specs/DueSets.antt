-- The Due rule by a set of orders for each step.
use Rattle.std.specs.Prelude.{◌≡◌, ℕ, List, map, length, None, Option, bit_and, count_ones, slice_index, slice_index_or}
use Rattle.sets.specs.declared.orders.OrderSet.{OrderSet}
use Rattle.sets.specs.Bits.{has}
use Rattle.sets.specs.Orders.{members}
use Rattle.sets.specs.Reach.{reach}
use Rattle.sequences.specs.Steps.{Meaning}
use Rattle.sequences.specs.StepRules.{due_before, stepping, undone}

-- the set has the orders with a due step below t, and no others
pub record DueBefore (dues : List (Option ℕ)) (t set : ℕ) : Type 0 where
  pub each : (j : ℕ) → has set j ≡ due_before t (slice_index_or dues j None)

-- entry t has the orders that count once t sheets are done: how many of them still have a sheet not done
abbrev pub overdue_figure : List ℕ → List OrderSet → ℕ → ℕ → ℕ
overdue_figure rows overdue S p =
    count_ones (bit_and (slice_index (map members overdue) (count_ones S)) (reach rows (undone (length rows) S)))

abbrev pub overdue_rule : List ℕ → List OrderSet → Meaning
overdue_rule rows overdue = stepping (length rows) (overdue_figure rows overdue)
