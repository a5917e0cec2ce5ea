-- How many rows are in use.
use Rattle.std.proofs.Common.{◌≡◌, ℕ, ◌≤◌, List, map, length, take, ◌∙◌}
use Rattle.std.proofs.lemmas.List.{length-map, length-take-le}
use Rattle.sets.specs.declared.orders.OrderSet.{OrderSet}
use Rattle.sets.specs.Orders.{members}

module _ (xs : List OrderSet) (count : ℕ) (fits : count ≤ length xs) where
  pub rows_length : length (map members (take count xs)) ≡ count
  rows_length = length-map (take count xs) members ∙ length-take-le count xs fits
