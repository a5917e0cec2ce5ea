use Rattle.job.proofs.Readings.{job_sound}
use Rattle.questions.proofs.Values.{peaks_counted}
use Rattle.questions.proofs.asked.over_open_within.Goals as goal

pub returns-clause-count : goal.returns-clause-count
returns-clause-count g c s is = cc (peaks_counted _ (job_sound c.args.job.now) c.args.places s is)
