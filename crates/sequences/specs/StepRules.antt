-- The step rules Open, Due and Limit. The sheets of a job are as many as its rows.
use Rattle.std.specs.Prelude.{ℕ, ◌+◌, ◌-◌, ◌^◌, Bool, false, cond, not, ◌&&◌, List, length, Some, None, count_by, Option, bit_and, count_ones, nat_le, nat_lt, slice_index_or}
use Rattle.sets.specs.Bits.{has, with}
use Rattle.sets.specs.Reach.{reach}
use Rattle.sequences.specs.Steps.{Meaning}
use Rattle.std.specs.List.{range_with_len}

-- p can come next after the sheets of S: both know only sheets below n, and p is not done
abbrev pub is_next : ℕ → ℕ → ℕ → Bool
is_next n S p = nat_lt p n && (not (has S p) && nat_lt S (2 ^ n))

-- the sheets below n that are not in S
abbrev pub undone : ℕ → ℕ → ℕ
undone n S = 2 ^ n - 1 - S

-- the figure where p can come next
abbrev pub stepping : ℕ → (ℕ → ℕ → ℕ) → Meaning
stepping n figure S p = cond (is_next n S p) (Some (figure S p)) None

-- how many orders are in both the reach of the done set with the next sheet, and the reach of the sheets not yet done
abbrev pub open_figure : List ℕ → ℕ → ℕ → ℕ
open_figure rows S p = count_ones (bit_and (reach rows (with S p)) (reach rows (undone (length rows) S)))

abbrev pub open_rule : List ℕ → Meaning
open_rule rows = stepping (length rows) (open_figure rows)

-- the order's due step is below t
abbrev pub due_before : ℕ → Option ℕ → Bool
due_before t None = false
due_before t (Some due) = nat_lt due t

-- with t as the number of done sheets plus 1: how many orders with a due step below t still have a sheet not done
abbrev pub due_figure : List ℕ → List (Option ℕ) → ℕ → ℕ → ℕ
due_figure rows dues S p =
    count_by (λ j. due_before (count_ones S + 1) (slice_index_or dues j None) && has (reach rows (undone (length rows) S)) j) (range_with_len 0 (length dues))

abbrev pub due_rule : List ℕ → List (Option ℕ) → Meaning
due_rule rows dues = stepping (length rows) (due_figure rows dues)

-- a figure that is at most k
abbrev pub at_most : ℕ → Option ℕ → Option ℕ
at_most k None = None
at_most k (Some f) = cond (nat_le f k) (Some f) None

-- what the rule below forbids is forbidden, and every figure above k
abbrev pub limit : ℕ → Meaning → Meaning
limit k rule S p = at_most k (rule S p)
