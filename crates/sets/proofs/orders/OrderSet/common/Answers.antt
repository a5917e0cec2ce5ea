use Rattle.sets.proofs.Bits.{common_counted}
use Rattle.sets.proofs.orders.OrderSet.common.Goals as goal

pub returns-clause-counted : goal.returns-clause-counted
returns-clause-counted c = λ m. common_counted c.args.self.bits c.args.other.bits m
