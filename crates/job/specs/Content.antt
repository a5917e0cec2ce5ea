-- What a job file says: all that the planner sees of it.
use Rattle.std.specs.Prelude.{ℕ, cond, List, map, Some, None, Option, ◌==◌}
use Rattle.std.specs.List.{range_with_len}
use Rattle.jobfile.specs.Fields.{sheets, orders, row, due_step, label}

-- a row for each sheet; a due step, if there is one, and a label for each order
pub record Content : Type 0 where
  pub rows : List ℕ
  pub dues : List (Option ℕ)
  pub labels : List (List ℕ)

abbrev pub due : List ℕ → ℕ → Option ℕ
due file order = cond (due_step file order == 0) None (Some (due_step file order))

abbrev pub content : List ℕ → Content
content file =
    record {
      rows = map (row file) (range_with_len 0 (sheets file));
      dues = map (due file) (range_with_len 0 (orders file));
      labels = map (label file) (range_with_len 0 (orders file));
    }
