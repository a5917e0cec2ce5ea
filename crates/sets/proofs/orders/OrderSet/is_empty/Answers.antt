use Rattle.sets.proofs.Bits.{empty_decides}
use Rattle.sets.proofs.orders.OrderSet.is_empty.Goals as goal

pub returns-clause-members : goal.returns-clause-members
returns-clause-members c = empty_decides c.args.self.bits
