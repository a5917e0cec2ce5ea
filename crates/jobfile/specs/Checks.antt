-- The checks that a job file meets, in their order.
use Rattle.std.specs.Prelude.{ℕ, ◌*◌, ◌^◌, Bool, not, List, [], ◌∷◌, ◌++◌, map, length, is_ok, ◌==◌, nat_le, nat_lt}
use Rattle.std.specs.List.{list_all}
use Rattle.faults.specs.declared.file.FileFault.{FileFault}
use Rattle.faults.specs.declared.file.FileFault.TheVariants.{Short, Edition, Length, Sheets, Orders, RowsOutside, RecordsOutside}
use Rattle.faults.specs.declared.job.JobFault.{JobFault}
use Rattle.faults.specs.declared.job.JobFault.TheVariants.{File, EmptyRow, StrangeOrder, Unserved, DueTooLate, LabelOutside, LabelUnprintable, LabelTaken}
use Rattle.jobfile.specs.Check.{Check, check, in_turn, verdict}
use Rattle.jobfile.specs.Edition.{header_bytes, row_bytes, record_bytes, most_sheets, most_orders}
use Rattle.jobfile.specs.Fields.{edition, sheets, orders, rows_at, records_at, stated_length, row, due_step, label}
use Rattle.jobfile.specs.Tests.{between, inside, served, label_fits, printable, taken}

-- the header, and where the rows and the records lie
abbrev pub file_checks : List ℕ → List (Check FileFault)
file_checks file =
    check (nat_le header_bytes (length file)) (Short (length file))
    ∷ check (edition file == 1) (Edition (edition file))
    ∷ check (stated_length file == length file) (Length (length file))
    ∷ check (between 1 most_sheets (sheets file)) (Sheets (sheets file))
    ∷ check (between 1 most_orders (orders file)) (Orders (orders file))
    ∷ check (inside file (rows_at file) (row_bytes * sheets file)) RowsOutside
    ∷ check (inside file (records_at file) (record_bytes * orders file)) RecordsOutside
    ∷ []

abbrev pub sheet_checks : List ℕ → ℕ → List (Check JobFault)
sheet_checks file sheet =
    check (not (row file sheet == 0)) (EmptyRow sheet)
    ∷ check (nat_lt (row file sheet) (2 ^ orders file)) (StrangeOrder sheet)
    ∷ []

abbrev pub order_checks : List ℕ → ℕ → List (Check JobFault)
order_checks file order =
    check (served file order) (Unserved order)
    ∷ check (nat_le (due_step file order) (sheets file)) (DueTooLate order)
    ∷ check (label_fits file order) (LabelOutside order)
    ∷ check (list_all printable (label file order)) (LabelUnprintable order)
    ∷ check (not (taken file order)) (LabelTaken order)
    ∷ []

abbrev pub in_file : Check FileFault → Check JobFault
in_file c = check c.holds (File c.fault)

-- all checks of a job file, in the order in which they are made
abbrev pub checks : List ℕ → List (Check JobFault)
checks file =
    map in_file (file_checks file)
    ++ (in_turn (sheet_checks file) 0 (sheets file) ++ in_turn (order_checks file) 0 (orders file))

abbrev pub accepts : List ℕ → Bool
accepts file = is_ok (verdict (checks file))
