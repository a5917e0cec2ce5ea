use Rattle.job.specs.Jobs.{file_of}
use Rattle.job.proofs.Accepted.{rows_length}
use Rattle.job.proofs.job.Job.sheets.Goals as goal

pub returns : goal.returns
returns c = record { value = cc (rows_length (file_of c.args.self.now)) }
