use Rattle.std.proofs.Common.{◌≡◌, ◌<◌, arith}
use Rattle.std.proofs.lemmas.Bool.{cond-false, cond-true, eq-eqb, ne_eqb}
use Rattle.jobfile.specs.Fields.{due_step, orders}
use Rattle.job.specs.Jobs.{file_of}
use Rattle.job.proofs.Accepted.{due_at, due_small, labels_length}
use Rattle.job.proofs.Readings.{accepted_passes}
use Rattle.job.proofs.job.Job.due.Goals as goal

pub overflow_cast-result : goal.overflow_cast-result
overflow_cast-result c =
    let file = file_of c.args.self.now in
    let step : c.order_record-step.result.due_step ≡ due_step file c.args.order = cc in
    let listed : c.args.order < orders file = omega (arith, labels_length file) in
    record { fits = omega (arith, due_small file (accepted_passes file c.args.self.now.accepted) c.args.order listed) }

pub returns-then-step-eq0 : goal.returns-then-step-eq0
returns-then-step-eq0 c =
    let file = file_of c.args.self.now in
    let listed : c.args.order < orders file = omega (arith, labels_length file) in
    let none : due_step file c.args.order ≡ 0 = cc in
    record { value = cc (due_at file c.args.order listed, cond-true _ _ _ (eq-eqb _ _ none)) }

pub returns-else-step-eq0 : goal.returns-else-step-eq0
returns-else-step-eq0 c =
    let file = file_of c.args.self.now in
    let listed : c.args.order < orders file = omega (arith, labels_length file) in
    let some : due_step file c.args.order ≡ 0 → ⊥ = λ e. c.if-step-eq0.false cc in
    record { value = cc (due_at file c.args.order listed, cond-false _ _ _ (ne_eqb _ _ some)) }
