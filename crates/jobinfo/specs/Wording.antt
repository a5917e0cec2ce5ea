-- What the program prints for each input.
use Rattle.std.specs.Prelude.{ℕ, List, [], ◌∷◌, ◌++◌, map, length, Some, None, Ok, Err, codes, decimal, filter, Option, Result, slice_index, slice_index_or}
use Rattle.std.specs.List.{range_with_len, flat_map}
use Rattle.faults.specs.Refusals.{job_refusal}
use Rattle.faults.specs.declared.job.JobFault.{JobFault}
use Rattle.sets.specs.Bits.{has}
use Rattle.lines.specs.Lines.{line, refused_line}
use Rattle.job.specs.Content.{Content}
use Rattle.job.specs.Reading.{reading}

abbrev pub label_of : Content → ℕ → List ℕ
label_of c order = slice_index_or c.labels order []

-- the labels of the orders that a sheet serves, in rising order number
abbrev pub labels_of : Content → ℕ → List (List ℕ)
labels_of c sheet = map (label_of c) (filter (has (slice_index c.rows sheet)) (range_with_len 0 (length c.labels)))

abbrev pub sheet_line : Content → ℕ → List ℕ
sheet_line c sheet = line (codes "sheet") (decimal sheet ∷ labels_of c sheet)

abbrev pub due_word : Option ℕ → List ℕ
due_word None = codes "none"
due_word (Some step) = decimal step

abbrev pub order_line : Content → ℕ → List ℕ
order_line c order = line (codes "order") (decimal order ∷ label_of c order ∷ due_word (slice_index_or c.dues order None) ∷ [])

-- how many sheets and orders there are
abbrev pub counts_line : Content → List ℕ
counts_line c = line (codes "job") (decimal (length c.rows) ∷ decimal (length c.labels) ∷ [])

abbrev pub sheet_lines : Content → List ℕ
sheet_lines c = flat_map (sheet_line c) (range_with_len 0 (length c.rows))

abbrev pub order_lines : Content → List ℕ
order_lines c = flat_map (order_line c) (range_with_len 0 (length c.labels))

-- the counts, then a line for each sheet, then one for each order
abbrev pub job_text : Content → List ℕ
job_text c = counts_line c ++ (sheet_lines c ++ order_lines c)

abbrev pub answer_text : Result Content JobFault → List ℕ
answer_text (Ok c) = job_text c
answer_text (Err fault) = refused_line (job_refusal fault).number (job_refusal fault).place

-- all that is printed for an input
abbrev pub printed : List ℕ → List ℕ
printed input = answer_text (reading input)
