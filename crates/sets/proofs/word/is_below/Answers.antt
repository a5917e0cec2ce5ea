use Rattle.std.proofs.Common.{◌^◌, ◌<◌, arith}
use Rattle.std.proofs.lemmas.Bool.Decides.{Decides-at}
use Rattle.sets.proofs.Bits.{below_decides}
use Rattle.sets.proofs.Widths.{shifted_out, wide_bound}
use Rattle.sets.proofs.word.is_below.Goals as goal

pub returns-then-bound-ge-WIDTH : goal.returns-then-bound-ge-WIDTH
returns-then-bound-ge-WIDTH c =
    let small : c.args.bits < 2 ^ 64 = omega arith in
    let e = wide_bound 64 c.args.bits c.args.bound small c.if-bound-ge-WIDTH.true in
    record { value = e; members = Decides-at _ _ e (below_decides c.args.bits c.args.bound) }

pub returns-else-bound-ge-WIDTH : goal.returns-else-bound-ge-WIDTH
returns-else-bound-ge-WIDTH c =
    let e = shifted_out c.args.bits c.args.bound in
    record { value = e; members = Decides-at _ _ e (below_decides c.args.bits c.args.bound) }
