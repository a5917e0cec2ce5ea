use Rattle.std.proofs.Common.{arith}
use Rattle.sets.proofs.sheets.SheetSet.with.Goals as goal

pub overflow_cast-result : goal.overflow_cast-result
overflow_cast-result c = record { fits = c.with.ensures.fits 32 (omega arith) (omega arith) }
