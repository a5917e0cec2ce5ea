use Rattle.std.proofs.Common.{arith}
use Rattle.job.specs.Jobs.{file_of}
use Rattle.job.proofs.Accepted.{label_at_lem, labels_length}
use Rattle.job.proofs.job.Job.label.Goals as goal

pub returns-then-order-orders : goal.returns-then-order-orders
returns-then-order-orders c =
    let file = file_of c.args.self.now in
    record { value = cc (label_at_lem file c.args.order (omega (arith, labels_length file))) }
