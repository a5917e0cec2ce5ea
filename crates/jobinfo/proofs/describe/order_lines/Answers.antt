use Rattle.std.proofs.Common.{rules, arith, refl}
use Rattle.std.proofs.lemmas.Iterator.{YieldsList-from_range}
use Rattle.job.specs.Jobs.{content_of}
use Rattle.jobinfo.specs.Wording.{order_line}
use Rattle.jobinfo.proofs.Growth.{grown}
use Rattle.jobinfo.proofs.describe.order_lines.Goals as goal

pub returns : goal.returns
returns c = record {
  value = grown _ _ (order_line (content_of c.args.job.now)) _ (λ t x r q k. search rules)
      (YieldsList-from_range 0 _ _ refl (omega (arith, c.orders.ensures.value))) c.args.text _ _ _ c.try_fold.ensures.ran;
}
