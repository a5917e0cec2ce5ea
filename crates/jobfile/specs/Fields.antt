-- What stands where in a job file. A byte past the end counts as 0.
use Rattle.std.specs.Prelude.{ℕ, ◌+◌, ◌*◌, List, take, drop}
use Rattle.sets.specs.Bytes.{low_first}
use Rattle.jobfile.specs.Edition.{row_bytes, record_bytes}

-- the number in the w bytes at an offset, the lowest byte first
abbrev pub le : ℕ → List ℕ → ℕ → ℕ
le w file at = low_first (take w (drop at file))

abbrev pub field : List ℕ → ℕ → ℕ
field file at = le 2 file at

-- the header
abbrev pub edition : List ℕ → ℕ
edition file = field file 0

abbrev pub sheets : List ℕ → ℕ
sheets file = field file 2

abbrev pub orders : List ℕ → ℕ
orders file = field file 4

abbrev pub rows_at : List ℕ → ℕ
rows_at file = field file 6

abbrev pub records_at : List ℕ → ℕ
records_at file = field file 8

abbrev pub stated_length : List ℕ → ℕ
stated_length file = field file 10

-- the row of a sheet: bit j says whether the sheet serves order j
abbrev pub row : List ℕ → ℕ → ℕ
row file sheet = le row_bytes file (rows_at file + row_bytes * sheet)

-- the record of an order: its due step, or 0 for none, and where its label lies
abbrev pub record_at : List ℕ → ℕ → ℕ
record_at file order = records_at file + record_bytes * order

abbrev pub due_step : List ℕ → ℕ → ℕ
due_step file order = field file (record_at file order)

abbrev pub label_at : List ℕ → ℕ → ℕ
label_at file order = field file (record_at file order + 2)

abbrev pub label_bytes : List ℕ → ℕ → ℕ
label_bytes file order = field file (record_at file order + 4)

abbrev pub label : List ℕ → ℕ → List ℕ
label file order = take (label_bytes file order) (drop (label_at file order) file)
