-- A limit over Open: which sequences of a job it permits.
use Rattle.std.proofs.Common.{◌≡◌, ℕ, Bool, true, false, cond, leb, List, map, is_some, Some, None, refl, ap, ◌∙◌}
use Rattle.job.specs.Content.{Content}
use Rattle.job.specs.WellFormed.{Sound}
use Rattle.rules.proofs.Limits.{figures-within}
use Rattle.rules.specs.Piles.{within}
use Rattle.sequences.proofs.Costs.{all_at_most}
use Rattle.sequences.proofs.JobCosts.{open_of_lem}
use Rattle.sequences.specs.JobCosts.{PermitsPeaks, SequenceOf, open_of, peak_of}
use Rattle.sequences.specs.Stacks.{steps}
use Rattle.sequences.specs.StepRules.{limit, open_rule}
use Rattle.sequences.specs.Steps.{figures}

module _ (job : Content) (sound : Sound job) (k : ℕ) where
  -- the figures are those of Open, where the peak is within the limit
  pub figures_limited : (s : List ℕ) → SequenceOf job s
      → figures (limit k (open_rule job.rows)) s ≡ cond (leb (peak_of job s) k) (Some (map (open_of job s) (steps s))) None
  figures_limited s is =
      figures-within k (open_rule job.rows) s
      ∙ (ap (within k) (open_of_lem job sound s is)
      ∙ ap (λ b. cond b (Some (map (open_of job s) (steps s))) None) (all_at_most k (map (open_of job s) (steps s))))

  pub peaks_permitted : PermitsPeaks k (limit k (open_rule job.rows)) job
  peaks_permitted s is = ap is_some (figures_limited s is) ∙ from (leb (peak_of job s) k) (map (open_of job s) (steps s))
    where
      from : (b : Bool) (fs : List ℕ) → is_some (cond b (Some fs) None) ≡ b
      from true fs = refl
      from false fs = refl
