use Rattle.std.proofs.Common.{◌≡◌, ℕ, ◌+◌, ◌<◌, Bool, get_or, None, sym, ap, ◌∙◌, subst, arith, rules}
use Rattle.job.specs.Jobs.{content_of}
use Rattle.job.proofs.Readings.{job_sound}
use Rattle.sequences.specs.StepRules.{due_before}
use Rattle.sets.specs.Bits.{has}
use Rattle.sets.specs.Orders.{members, room}
use Rattle.rules.proofs.Before.{Upto, upto_passed, upto_taken}
use Rattle.rules.proofs.due.making.due_before.Goals as goal
use Rattle.rules.proofs.due.making.due_before.Goals.{then-is_some_and, else-is_some_and}

pub loop-order-preserved : goal.loop-order-preserved
loop-order-preserved c =
    let order = c.loop-order.order in
    let test : ℕ → Bool = λ j. due_before c.args.step (get_or (content_of c.args.job.now).dues j None) in
    let tested : c.is_some_and.result ≡ test order = search rules in
    let fits : order < room =
    omega (arith, c.loop-order-test.true, c.orders-order-end.ensures.value, (job_sound c.args.job.now).few_orders) in
    elim c.if-is_some_and.branch [
      | then-is_some_and w ↦
          upto_taken test order (members c.loop-order.orders) (members c.if-is_some_and.orders) c.loop-order.invariant
          (sym tested ∙ w.if-is_some_and.true) fits
          (λ j. ap (λ s. has (members s) j) w.orders-is ∙ w.with-orders.ensures.members j)
      | else-is_some_and w ↦
          subst (λ s. Upto test (members s) (order + 1)) (sym w.orders-is)
          (upto_passed test order (members c.loop-order.orders) c.loop-order.invariant (sym tested ∙ w.if-is_some_and.false))
    ]
