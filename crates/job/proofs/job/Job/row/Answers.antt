use Rattle.std.proofs.Common.{arith}
use Rattle.job.specs.Jobs.{file_of}
use Rattle.job.proofs.Accepted.{row_at, rows_length}
use Rattle.job.proofs.job.Job.row.Goals as goal

pub returns-then-sheet-sheets : goal.returns-then-sheet-sheets
returns-then-sheet-sheets c =
    let file = file_of c.args.self.now in
    record { value = cc (row_at file c.args.sheet (omega (arith, rows_length file))) }
