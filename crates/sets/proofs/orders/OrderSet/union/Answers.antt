use lib.Bits.{or_lt}
use Rattle.sets.proofs.Bits.{has-or}
use Rattle.sets.proofs.orders.OrderSet.union.Goals as goal

pub invariant_of-result : goal.invariant_of-result
invariant_of-result c = record { fits = or_lt 64 c.args.self.bits c.args.other.bits c.args.self.fits c.args.other.fits }

pub returns-clause-members : goal.returns-clause-members
returns-clause-members c = has-or c.args.self.bits c.args.other.bits
