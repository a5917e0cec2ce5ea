use Rattle.job.specs.Jobs.{file_of}
use Rattle.job.proofs.Accepted.{labels_length}
use Rattle.job.proofs.job.Job.orders.Goals as goal

pub returns : goal.returns
returns c = record { value = cc (labels_length (file_of c.args.self.now)) }
