use Rattle.std.proofs.Common.{◌≡◌, take}
use Rattle.sets.specs.RowLists.{rows_of}
use Rattle.job.specs.Jobs.{content_of}
use Rattle.job.proofs.job.Job.rows.Given as goal

abbrev pub invariant-loop-sheet : goal.invariant-loop-sheet
invariant-loop-sheet l = rows_of l.rows ≡ take l.sheet (content_of l.self).rows
