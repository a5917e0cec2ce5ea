use Rattle.std.proofs.Common.{sym, ap, ◌∙◌, subst}
use Rattle.job.proofs.Readings.{job_sound}
use Rattle.job.specs.Jobs.{content_of}
use Rattle.rules.proofs.Peaks.{peaks_permitted}
use Rattle.rules.proofs.places.within_places.Goals as goal
use Rattle.sequences.specs.JobCosts.{PermitsPeaks}
use Rattle.sequences.specs.StepRules.{limit}

pub returns-clause-permits : goal.returns-clause-permits
returns-clause-permits c =
    let job = c.args.job.now in
    let asks = c.new.ensures.asks ∙ ap (limit c.args.places) c.of.ensures.asks in
    subst (λ rule. PermitsPeaks c.args.places rule (content_of job)) (sym asks) (peaks_permitted (content_of job) (job_sound job) c.args.places)
