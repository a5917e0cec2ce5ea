use Rattle.std.proofs.Common.{Err, vec_items, sym, ap, ◌∙◌}
use Rattle.std.proofs.lemmas.Result.{err_from_is_err_and}
use Rattle.jobfile.specs.Check.{verdict}
use Rattle.jobfile.specs.Checks.{checks}
use Rattle.job.proofs.Readings.{accepts_well, refusal}
use Rattle.job.proofs.job.Job.read.Goals as goal

pub returns-in_err-check : goal.returns-in_err-check
returns-in_err-check c =
    let file = vec_items c.args.file in
    let p = err_from_is_err_and c.from_residual.result c.from_residual.ensures.1 in
    let same = ap (λ f. verdict (checks f)) (c.new.ensures.value ∙ c.deref.ensures.value) in
    let q = refusal file c.from_residual.result _ (p.1 ∙ ap Err p.2) (sym same ∙ sym c.in_err-check.ensures.value) in
    record { value = q.0; file = q.1; accepts = q.2; refuses = q.3 }

pub returns-clause-accepts : goal.returns-clause-accepts
returns-clause-accepts c =
    let same = ap (λ f. verdict (checks f)) (c.new.ensures.value ∙ c.deref.ensures.value) in
    accepts_well (vec_items c.args.file) (sym same ∙ sym c.in_ok-check.ensures.value)
