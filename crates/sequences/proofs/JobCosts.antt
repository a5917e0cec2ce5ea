-- The figures of Open and Due along a sequence of a job.
use Rattle.std.proofs.Common.{◌≡◌, ℕ, ◌*◌, ◌≤◌, List, map, length, Some, sum, ap, ◌∙◌, subst, mul-le-mul, arith}
use Rattle.job.specs.Content.{Content}
use Rattle.job.specs.WellFormed.{Sound}
use Rattle.jobfile.specs.Edition.{most_orders, most_sheets}
use Rattle.sequences.specs.JobCosts.{SequenceOf, open_of, spread_of, lateness_of}
use Rattle.sequences.specs.Stacks.{serving, lateness, steps}
use Rattle.sequences.specs.StepRules.{open_rule, due_rule}
use Rattle.sequences.specs.Steps.{figures}
use Rattle.sequences.proofs.Costs.{lateness_le, lateness_summed, spread_le, spread_summed}
use Rattle.sequences.proofs.DoneSets.{sequence_length}
use Rattle.sequences.proofs.Figures.{due_figures, open_figures, overdue}

module _ (job : Content) (sound : Sound job) (s : List ℕ) (is : SequenceOf job s) where
  pub open_of_lem : figures (open_rule job.rows) s ≡ Some (map (open_of job s) (steps s))
  open_of_lem = open_figures job.rows s is (length job.labels) sound.known

  pub open_summed : sum (map (open_of job s) (steps s)) ≡ spread_of job s
  open_summed = spread_summed (serving job.rows) (length job.labels) s

  -- a job has only so many steps, and so many orders in each
  few : (x : ℕ) → x ≤ length s * length job.labels → x ≤ most_sheets * most_orders
  few x l =
      let steps_few : length s ≤ most_sheets = omega (arith, sequence_length (length job.rows) s is, sound.few_sheets) in
      let all_few : length s * length job.labels ≤ most_sheets * most_orders = mul-le-mul steps_few sound.few_orders in
      omega arith

  pub spread_small : spread_of job s ≤ most_sheets * most_orders
  spread_small = few (spread_of job s) (spread_le (serving job.rows) (length job.labels) s)

  module _ (each : length job.dues ≡ length job.labels) where
    pub due_of : figures (due_rule job.rows job.dues) s ≡ Some (map (overdue job.rows s is job.dues) (steps s))
    due_of = due_figures job.rows s is job.dues

    pub overdue_summed : sum (map (overdue job.rows s is job.dues) (steps s)) ≡ lateness_of job s
    overdue_summed =
        lateness_summed job.rows s is job.dues ∙ ap (λ m. lateness (serving job.rows) m job.dues s) each

    pub lateness_small : lateness_of job s ≤ most_sheets * most_orders
    lateness_small =
        few (lateness_of job s)
        (subst (λ m. lateness (serving job.rows) m job.dues s ≤ length s * m) each (lateness_le job.rows s is job.dues))
