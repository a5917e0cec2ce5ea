use Rattle.sets.proofs.Bits.{ones_counted}
use Rattle.sets.proofs.sheets.SheetSet.count.Goals as goal

pub returns-clause-counted : goal.returns-clause-counted
returns-clause-counted c = λ n. ones_counted c.args.self.bits n
