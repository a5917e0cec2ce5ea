-- What a sequence costs, in the words of the trade. `serves j p` says whether sheet p serves order j; m is the number of orders.
use Rattle.std.specs.Prelude.{◌≡◌, ℕ, suc, ◌+◌, ◌-◌, ◌<◌, ◌≤◌, max, Bool, true, false, cond, ◌&&◌, ◌||◌, List, [], ◌∷◌, map, length, Some, None, sum_by, count_by, Option, nat_le, nat_lt, slice_index, slice_index_or}
use Rattle.sets.specs.Bits.{has}
use Rattle.std.specs.List.{range_with_len}

-- the row of sheet p has order j
abbrev pub serving : List ℕ → ℕ → ℕ → Bool
serving rows j p = has (slice_index rows p) j

-- the steps of a sequence: 1, 2, and so on, one for each sheet
abbrev pub steps : List ℕ → List ℕ
steps s = range_with_len 1 (length s)

-- the step of the earliest sheet that serves an order; past the last step where none does
abbrev pub first : (ℕ → Bool) → List ℕ → ℕ
first serves [] = 1
first serves (p ∷ s) = cond (serves p) 1 (suc (first serves s))

-- the step of the latest sheet that serves an order; 0 where none does
abbrev pub last : (ℕ → Bool) → List ℕ → ℕ
last serves [] = 0
last serves (p ∷ s) = cond (serves p || nat_lt 0 (last serves s)) (suc (last serves s)) 0

-- t is the step of the earliest sheet that serves; past the last step where none does. Step i + 1 cuts sheet i of the list.
pub record IsFirst (serves : ℕ → Bool) (s : List ℕ) (t : ℕ) : Type 0 where
  pub counted : 1 ≤ t
  pub within : t ≤ length s + 1
  pub served : (i : ℕ) → i + 1 ≡ t → i < length s → serves (slice_index s i) ≡ true
  pub none_before : (i : ℕ) → i + 1 < t → i < length s → serves (slice_index s i) ≡ false

-- t is the step of the latest sheet that serves; 0 where none does
pub record IsLast (serves : ℕ → Bool) (s : List ℕ) (t : ℕ) : Type 0 where
  pub within : t ≤ length s
  pub served : (i : ℕ) → i + 1 ≡ t → i < length s → serves (slice_index s i) ≡ true
  pub none_after : (i : ℕ) → t < i + 1 → i < length s → serves (slice_index s i) ≡ false

-- an order has a stack when some sheet serves it: it has a first and a last step
abbrev pub has_stack : (ℕ → Bool) → List ℕ → Bool
has_stack serves s = nat_le (first serves s) (last serves s)

-- a stack is open in every step from first to last, both included
abbrev pub is_open : (ℕ → Bool) → List ℕ → ℕ → Bool
is_open serves s t = has_stack serves s && (nat_le (first serves s) t && nat_le t (last serves s))

-- in how many steps a stack is open
abbrev pub span : (ℕ → Bool) → List ℕ → ℕ
span serves s = cond (has_stack serves s) (last serves s + 1 - first serves s) 0

-- how many steps late the last sheet comes, of an order that may have a due step
abbrev pub late : Option ℕ → ℕ → ℕ
late None end = 0
late (Some due) end = end - due

-- the largest of the numbers
abbrev pub largest : List ℕ → ℕ
largest [] = 0
largest (x ∷ xs) = max x (largest xs)

module _ (serves : ℕ → ℕ → Bool) (m : ℕ) where
  -- how many orders are open in step t
  abbrev pub open_orders : List ℕ → ℕ → ℕ
  open_orders s t = count_by (λ j. is_open (serves j) s t) (range_with_len 0 m)

  -- the largest number of orders open in one step
  abbrev pub peak : List ℕ → ℕ
  peak s = largest (map (open_orders s) (steps s))

  -- the sum over the orders of last - first + 1
  abbrev pub spread : List ℕ → ℕ
  spread s = sum_by (λ j. span (serves j) s) (range_with_len 0 m)

  -- the sum over the orders with a due step of last - due, taken as 0 where negative
  abbrev pub lateness : List (Option ℕ) → List ℕ → ℕ
  lateness dues s = sum_by (λ j. late (slice_index_or dues j None) (last (serves j) s)) (range_with_len 0 m)
