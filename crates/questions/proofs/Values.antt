-- The value of a sequence of a job, for each question.
use Rattle.std.proofs.Common.{◌≡◌, ℕ, ◌+◌, Bool, true, false, cond, leb, List, map, length, Some, None, Option, refl, sum, ap, ◌∙◌, arith}
use Rattle.std.proofs.lemmas.List.Folds.{fold_stays}
use Rattle.job.specs.Content.{Content}
use Rattle.job.specs.WellFormed.{Sound}
use Rattle.objectives.specs.Objectives.{best_ops, count_ops, peak_ops, total_ops}
use Rattle.rules.proofs.Peaks.{figures_limited}
use Rattle.sequences.proofs.Figures.{overdue}
use Rattle.sequences.proofs.JobCosts.{due_of, lateness_small, open_of_lem, open_summed, overdue_summed, spread_small}
use Rattle.sequences.specs.JobCosts.{SequenceOf, lateness_of, open_of, peak_of, spread_of}
use Rattle.sequences.specs.Stacks.{steps}
use Rattle.sequences.specs.StepRules.{due_rule, limit, open_rule}
use Rattle.sequences.specs.Values.{extended}
use Rattle.questions.proofs.Folds.{best_folded, peak_folded, total_folded}
use Rattle.questions.specs.Answered.{CountsPeaks, NothingCut, ValuesAre, once, valued}

-- where values mean themselves
pub itself : {M : Type 0} {r w : Option M} → valued (λ (v : M). v) r ≡ w → r ≡ w
itself {r = None} e = e
itself {r = Some v} e = e

module _ (job : Content) (sound : Sound job) where
  abbrev opens : List ℕ → List ℕ
  opens s = map (open_of job s) (steps s)

  pub peak_values : ValuesAre peak_ops (open_rule job.rows) job (peak_of job)
  peak_values s is = rw (open_of_lem job sound s is) (ap Some (peak_folded 0 (opens s) ∙ omega arith))

  pub spread_uncut : NothingCut job (spread_of job)
  spread_uncut s is = omega (arith, spread_small job sound s is)

  summed : (s : List ℕ) → SequenceOf job s → 0 + sum (opens s) ≡ spread_of job s
  summed s is = omega (arith, open_summed job sound s is)

  pub spread_values : ValuesAre total_ops (open_rule job.rows) job (spread_of job)
  spread_values s is = rw (open_of_lem job sound s is) (ap Some (total_folded (spread_of job s) (spread_uncut s is) 0 (opens s) (summed s is)))

  pub best_values : ValuesAre best_ops (open_rule job.rows) job (once (spread_of job))
  best_values s is = rw (open_of_lem job sound s is) (ap Some (best_folded (spread_of job s) (spread_uncut s is) 0 1 (opens s) (summed s is)))

  module _ (each : length job.dues ≡ length job.labels) where
    pub late_uncut : NothingCut job (lateness_of job)
    late_uncut s is = omega (arith, lateness_small job sound s is each)

    pub late_values : ValuesAre total_ops (due_rule job.rows job.dues) job (lateness_of job)
    late_values s is =
        let fs = map (overdue job.rows s is job.dues) (steps s) in
        rw (due_of job sound s is each) (ap Some (total_folded (lateness_of job s) (late_uncut s is) 0 fs (omega (arith, overdue_summed job sound s is each))))

  pub peaks_counted : (k : ℕ) → CountsPeaks k (limit k (open_rule job.rows)) job
  peaks_counted k s is = rw (figures_limited job sound k s is) (from (leb (peak_of job s) k) (opens s))
    where
      from : (b : Bool) (fs : List ℕ) → extended count_ops (cond b (Some fs) None) ≡ cond b (Some 1) None
      from true fs = ap Some (fold_stays (λ n _. n) 1 (λ _. refl) fs)
      from false fs = refl
