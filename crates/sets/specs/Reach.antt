-- The reach of a set of sheets: the union of their rows.
use Rattle.std.specs.Prelude.{◌≡◌, ℕ, zero, suc, ◌<◌, true, cond, List, length, bit_or, slice_index}
use Rattle.sets.specs.Bits.{has}

-- the union of the rows of the sheets below k that S has
abbrev pub reach_below : List ℕ → ℕ → ℕ → ℕ
reach_below rows S zero = 0
reach_below rows S (suc k) = bit_or (reach_below rows S k) (cond (has S k) (slice_index rows k) 0)

abbrev pub reach : List ℕ → ℕ → ℕ
reach rows S = reach_below rows S (length rows)

-- some sheet of the set S serves the order j
pub record Serves (rows : List ℕ) (S j : ℕ) : Type 0 where
  pub sheet : ℕ
  pub listed : sheet < length rows
  pub chosen : has S sheet ≡ true
  pub serves : has (slice_index rows sheet) j ≡ true
