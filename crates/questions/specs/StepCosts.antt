-- What a sequence of a job costs, found step by step, in the words of the trade.
use Rattle.std.specs.Prelude.{◌≡◌, ℕ, cond, List, Some, None, nat_le}
use Rattle.job.specs.Content.{Content}
use Rattle.objectives.specs.BestValues.{costed_of}
use Rattle.questions.specs.Answered.{once, valued}
use Rattle.questions.specs.declared.steps.StepCosts.{StepCosts}
use Rattle.sequences.specs.JobCosts.{lateness_of, peak_of, spread_of}

pub record CostsOf (job : Content) (s : List ℕ) (places : ℕ) (r : StepCosts) : Type 0 where
  pub peak : r.peak ≡ Some (peak_of job s)
  pub spread : r.spread ≡ Some (spread_of job s)
  pub lateness : r.lateness ≡ Some (lateness_of job s)
  pub best : valued costed_of r.best ≡ Some (once (spread_of job) s)
  pub count : r.count ≡ cond (nat_le (peak_of job s) places) (Some 1) None
