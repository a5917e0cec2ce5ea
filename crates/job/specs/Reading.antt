-- What reading a file comes to.
use Rattle.std.specs.Prelude.{ℕ, List, Ok, Err, Result}
use Rattle.faults.specs.declared.job.JobFault.{JobFault}
use Rattle.jobfile.specs.Check.{verdict}
use Rattle.jobfile.specs.Checks.{checks}
use Rattle.job.specs.Content.{Content, content}

-- the content of the file, or the fault of the first check that fails
abbrev pub reading : List ℕ → Result Content JobFault
reading file = elim (verdict (checks file)) [ Ok passed ↦ Ok (content file) | Err fault ↦ Err fault ]
