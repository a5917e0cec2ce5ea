-- The number, the layer and the place of every refusal: one line for each case of each fault.
use Rattle.std.specs.Prelude.{ℕ}
use Rattle.faults.specs.declared.layer.Layer.TheVariants as layer
use Rattle.faults.specs.declared.refusal.Refusal.{Refusal}
use Rattle.faults.specs.declared.file.FileFault.{FileFault}
use Rattle.faults.specs.declared.file.FileFault.TheVariants.{Short, Edition, Length, Sheets, Orders, RowsOutside, RecordsOutside}
use Rattle.faults.specs.declared.job.JobFault.{JobFault}
use Rattle.faults.specs.declared.job.JobFault.TheVariants.{File, EmptyRow, StrangeOrder, Unserved, DueTooLate, LabelOutside, LabelUnprintable, LabelTaken}

abbrev pub in_file : ℕ → ℕ → Refusal
in_file number place = record { number = number; layer = layer.File; place = place }

abbrev pub in_job : ℕ → ℕ → Refusal
in_job number place = record { number = number; layer = layer.Job; place = place }

-- The places of the two parts are the bytes of the header that hold their offsets.
abbrev pub file_refusal : FileFault → Refusal
file_refusal (Short bytes) = in_file 1 bytes
file_refusal (Edition edition) = in_file 2 edition
file_refusal (Length bytes) = in_file 3 bytes
file_refusal (Sheets sheets) = in_file 4 sheets
file_refusal (Orders orders) = in_file 5 orders
file_refusal RowsOutside = in_file 6 6
file_refusal RecordsOutside = in_file 6 8

-- A fault of the file keeps its own number, layer and place.
abbrev pub job_refusal : JobFault → Refusal
job_refusal (File fault) = file_refusal fault
job_refusal (EmptyRow sheet) = in_job 11 sheet
job_refusal (StrangeOrder sheet) = in_job 12 sheet
job_refusal (Unserved order) = in_job 13 order
job_refusal (DueTooLate order) = in_job 14 order
job_refusal (LabelOutside order) = in_job 15 order
job_refusal (LabelUnprintable order) = in_job 16 order
job_refusal (LabelTaken order) = in_job 17 order
