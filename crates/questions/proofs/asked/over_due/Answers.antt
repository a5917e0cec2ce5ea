use Rattle.job.proofs.Readings.{dues_labels, job_sound}
use Rattle.questions.proofs.Values.{late_uncut, late_values}
use Rattle.questions.proofs.asked.over_due.Goals as goal

pub returns-clause-late : goal.returns-clause-late
returns-clause-late g c s is = cc (late_values _ (job_sound c.args.job.now) (dues_labels c.args.job.now) s is)

pub returns-clause-uncut : goal.returns-clause-uncut
returns-clause-uncut g c = late_uncut _ (job_sound c.args.job.now) (dues_labels c.args.job.now)
