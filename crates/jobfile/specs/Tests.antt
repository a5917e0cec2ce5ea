-- The tests that the checks of a job file are made of.
use Rattle.std.specs.Prelude.{ℕ, ◌+◌, Bool, ◌&&◌, List, length, nat_le}
use Rattle.std.specs.List.{list_any, range_with_len}
use Rattle.std.specs.Str.{bytes_eq}
use Rattle.sets.specs.Bits.{has}
use Rattle.jobfile.specs.Edition.{header_bytes, most_label_bytes}
use Rattle.jobfile.specs.Fields.{sheets, row, label, label_at, label_bytes}

abbrev pub between : ℕ → ℕ → ℕ → Bool
between low high n = nat_le low n && nat_le n high

-- so many bytes from an offset on lie between the header and the end
abbrev pub inside : List ℕ → ℕ → ℕ → Bool
inside file at size = nat_le header_bytes at && nat_le (at + size) (length file)

-- some sheet serves the order
abbrev pub served : List ℕ → ℕ → Bool
served file order = list_any (λ sheet. has (row file sheet) order) (range_with_len 0 (sheets file))

-- the label has a length that labels can have, and lies inside
abbrev pub label_fits : List ℕ → ℕ → Bool
label_fits file order = between 1 most_label_bytes (label_bytes file order) && inside file (label_at file order) (label_bytes file order)

-- a byte that labels can have: printable, and no space
abbrev pub printable : ℕ → Bool
printable byte = between 33 126 byte

-- an earlier order has the same label
abbrev pub taken : List ℕ → ℕ → Bool
taken file order = list_any (λ earlier. bytes_eq (label file earlier) (label file order)) (range_with_len 0 order)
