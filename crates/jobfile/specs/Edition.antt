-- The numbers of the job file's edition 1.
use Rattle.std.specs.Prelude.{ℕ}

-- how many bytes the header, a row and an order record have
abbrev pub header_bytes : ℕ
header_bytes = 12

abbrev pub row_bytes : ℕ
row_bytes = 8

abbrev pub record_bytes : ℕ
record_bytes = 6

-- how many sheets and orders a job can have, and bytes a label
abbrev pub most_sheets : ℕ
most_sheets = 16

abbrev pub most_orders : ℕ
most_orders = 64

abbrev pub most_label_bytes : ℕ
most_label_bytes = 16
