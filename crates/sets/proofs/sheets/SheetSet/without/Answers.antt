use Rattle.std.proofs.Common.{◌^◌, ◌<◌, sym, ap, ◌∙◌, arith}
use Rattle.sets.specs.Bits.{has}
use Rattle.sets.proofs.Bits.{has-without}
use Rattle.sets.proofs.Widths.{member_below, taken}
use Rattle.sets.proofs.sheets.SheetSet.without.Goals as goal

pub overflow_shl-result : goal.overflow_shl-result
overflow_shl-result c =
    let small : c.args.self.bits < 2 ^ 32 = omega arith in
    member_below 32 c.args.self.bits c.args.sheet small (sym c.if-not-has.ensures.value)

pub returns : goal.returns
returns c =
    let small : c.args.self.bits < 2 ^ 32 = omega arith in
    let e = taken 32 c.args.self.bits c.args.sheet small (sym c.if-not-has.ensures.value) in
    record { value = e; members = λ p. ap (λ n. has n p) e ∙ has-without c.args.self.bits c.args.sheet p }
