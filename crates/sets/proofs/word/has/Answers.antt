use Rattle.std.proofs.Common.{◌^◌, ◌<◌, arith}
use Rattle.sets.proofs.Widths.{has_past}
use Rattle.sets.proofs.word.has.Goals as goal

pub returns-else-p-lt-WIDTH : goal.returns-else-p-lt-WIDTH
returns-else-p-lt-WIDTH c =
    let small : c.args.bits < 2 ^ 64 = omega arith in
    record { value = has_past 64 c.args.bits c.args.p small c.if-p-lt-WIDTH.false }
