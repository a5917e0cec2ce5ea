use Rattle.job.proofs.Readings.{job_sound}
use Rattle.questions.proofs.Values.{best_values, peak_values, spread_uncut, spread_values}
use Rattle.questions.proofs.asked.over_open.Goals as goal

pub returns-clause-peak : goal.returns-clause-peak
returns-clause-peak g c s is = cc (peak_values _ (job_sound c.args.job.now) s is)

pub returns-clause-spread : goal.returns-clause-spread
returns-clause-spread g c s is = cc (spread_values _ (job_sound c.args.job.now) s is)

pub returns-clause-best : goal.returns-clause-best
returns-clause-best g c s is = cc (best_values _ (job_sound c.args.job.now) s is)

pub returns-clause-uncut : goal.returns-clause-uncut
returns-clause-uncut g c = spread_uncut _ (job_sound c.args.job.now)
