use Rattle.std.proofs.Common.{◌≡◌, sym, subst, rules}
use Rattle.job.proofs.Readings.{job_sound}
use Rattle.job.specs.Jobs.{content_of}
use Rattle.sequences.proofs.JobCosts.{open_of_lem}
use Rattle.sequences.specs.JobCosts.{CountsOpen}
use Rattle.sequences.specs.StepRules.{open_rule}
use Rattle.rules.specs.Meanings.{open_asks}
use Rattle.rules.proofs.stacks.Open.of.Goals as goal

pub returns-clause-steps : goal.returns-clause-steps
returns-clause-steps c =
    let job = c.args.job.now in
    let asks : open_asks c.new.result ≡ open_rule (content_of job).rows = search rules in
    subst (λ rule. CountsOpen rule (content_of job)) (sym asks) (open_of_lem (content_of job) (job_sound job))
