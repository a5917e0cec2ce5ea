use Rattle.std.proofs.Common.{Err, sym, ap, ◌∙◌}
use Rattle.std.proofs.lemmas.Result.{err_from_is_err_and}
use Rattle.jobfile.proofs.Loops.{turn_passes, turn_stops}
use Rattle.jobfile.proofs.checks.in_turn.Goals as goal

pub returns-in_err-check : goal.returns-in_err-check
returns-in_err-check g c =
    let p = err_from_is_err_and c.from_residual.result c.from_residual.ensures.1 in
    let n = c.loop-n.n in
    record {
      value =
          λ checks each.
          let failed = sym (each n c.check.result c.loop-n-test.true c.check.ensures) in
          p.1 ∙ (ap Err p.2 ∙ sym (c.loop-n.invariant checks each ∙ turn_stops checks n c.args.count c.loop-n-test.true _ (failed ∙ c.in_err-check.was)));
    }

pub loop-n-preserved : goal.loop-n-preserved
loop-n-preserved g c =
    let n = c.loop-n.n in
    λ checks each.
    let passed = sym (each n c.check.result c.loop-n-test.true c.check.ensures) in
    c.loop-n.invariant checks each ∙ turn_passes checks n c.args.count c.loop-n-test.true (passed ∙ c.in_ok-check.was)
