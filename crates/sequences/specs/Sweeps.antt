-- The values of done sets, each from those of smaller sets: what start and sweep make of a table.
use Rattle.std.specs.Prelude.{ℕ, ◌-◌, ◌^◌, cond, List, [], ◌∷◌, ◌++◌, Some, None, fold, Option, slice_index_or}
use Rattle.sequences.specs.Joins.{join_some}
use Rattle.sequences.specs.Steps.{Meaning}
use Rattle.sequences.specs.Values.{Ops}
use Rattle.sets.specs.Bits.{has, without}
use Rattle.std.specs.List.{range_with_len}

-- a cell's value extended by a figure; none where the cell is not reached or the step is forbidden
abbrev pub stepped : {M : Type 0} → Ops M → Option M → Option ℕ → Option M
stepped o (Some v) (Some figure) = Some (o.extend v figure)
stepped o (Some v) None = None
stepped o None figure = None

-- the candidate of the sheet p in the set S; none where p is not in S
abbrev pub candidate : {M : Type 0} → Ops M → Meaning → List (Option M) → ℕ → ℕ → Option M
candidate o rule cells S p = cond (has S p) (stepped o (slice_index_or cells (without S p) None) (rule (without S p) p)) None

-- the join of the candidates of S, the sheets in rising number
abbrev pub cell_from : {M : Type 0} → Ops M → ℕ → Meaning → List (Option M) → ℕ → Option M
cell_from o n rule cells S = fold (λ v p. join_some o v (candidate o rule cells S p)) None (range_with_len 0 n)

-- the cells of the sets 0 to k: the start, and then each set from the cells before it
abbrev pub swept_to : {M : Type 0} → Ops M → ℕ → Meaning → ℕ → List (Option M)
swept_to o n rule k = fold (λ cells S. cells ++ cell_from o n rule cells S ∷ []) (Some o.start ∷ []) (range_with_len 1 k)

-- what the swept table has for the set of all sheets
abbrev pub swept_value : {M : Type 0} → Ops M → ℕ → Meaning → Option M
swept_value o n rule = slice_index_or (swept_to o n rule (2 ^ n - 1)) (2 ^ n - 1) None
