use Rattle.std.proofs.Common.{◌^◌, ◌<◌, ltb, sym, ap, ◌∙◌, arith}
use Rattle.std.proofs.lemmas.Bool.{cond-true, lt-ltb}
use Rattle.sets.specs.Bits.{has, with}
use Rattle.sets.proofs.Bits.{with_below}
use Rattle.sets.proofs.Widths.{added, added_fits, has-with_in}
use Rattle.sets.proofs.word.with.Goals as goal

pub overflow_add-result : goal.overflow_add-result
overflow_add-result c =
    let small : c.args.bits < 2 ^ 64 = omega arith in
    record { fits = added_fits 64 c.args.bits c.args.p small (sym c.if-has.ensures.value) c.if-p-ge-WIDTH.false }

pub returns : goal.returns
returns c =
    let S = c.args.bits in
    let p = c.args.p in
    let e = added 64 S p (sym c.if-has.ensures.value) c.if-p-ge-WIDTH.false in
    let is = e ∙ cond-true (ltb p 64) (with S p) S (lt-ltb p 64 c.if-p-ge-WIDTH.false) in
    record {
      value = e;
      members = λ q. ap (λ n. has n q) e ∙ has-with_in 64 S p q;
      fits = λ room small h. omega (arith, is, with_below S p room small h);
    }
