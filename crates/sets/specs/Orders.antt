-- What a set of orders means, and how many orders it has room for.
use Rattle.std.specs.Prelude.{ℕ}
use Rattle.sets.specs.declared.orders.OrderSet.{OrderSet}

-- the number whose bit j says whether order j is in the set
abbrev pub members : OrderSet → ℕ
members s = s.bits

-- an order below this can be in a set
abbrev pub room : ℕ
room = 64

-- and its number has this many bytes
abbrev pub room_bytes : ℕ
room_bytes = 8
