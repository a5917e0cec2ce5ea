-- What a verdict makes of a reading.
use Rattle.std.proofs.Common.{◌≡◌, ℕ, true, false, List, length, is_ok, IfOk, IfErr, Ok, Err, Decides, Result, sym, refl, ap, ◌∙◌}
use Rattle.std.proofs.lemmas.Bool.{both_ways}
use Rattle.faults.specs.declared.job.JobFault.{JobFault}
use Rattle.job.specs.declared.job.Job.{Job}
use Rattle.jobfile.specs.Check.{FirstFault, verdict}
use Rattle.job.specs.Content.{Content, content}
use Rattle.job.specs.Jobs.{content_of, file_of, outcome}
use Rattle.jobfile.specs.Checks.{accepts, checks}
use Rattle.job.specs.Reading.{reading}
use Rattle.job.specs.WellFormed.{Sound, WellFormed}
use Rattle.job.proofs.Accepted.{dues_length, labels_length, passes, well_formed}
use Rattle.job.proofs.Verdicts.{first_fault}

passed_from : {F : Type 0} (r : Result (Unit {0}) F) → is_ok r ≡ true → r ≡ Ok tt
passed_from (Ok passed) e = refl
passed_from (Err fault) e = absurd (both_ways false refl e)

module _ (file : List ℕ) where
  pub accepted_passes : accepts file ≡ true → verdict (checks file) ≡ Ok tt
  accepted_passes e = passed_from (verdict (checks file)) e

  answer : Result (Unit {0}) JobFault → Result Content JobFault
  answer r = elim r [ Ok passed ↦ Ok (content file) | Err fault ↦ Err fault ]

  pub reading_refuses : (fault : JobFault) → verdict (checks file) ≡ Err fault → reading file ≡ Err fault
  unfolding answer
  reading_refuses fault e = ap answer e

  -- accepted exactly when well formed, at each way out
  pub accepts_well : verdict (checks file) ≡ Ok tt → Decides true (WellFormed file)
  accepts_well e = ((λ _. well_formed file e), (λ _. refl))

  pub refuses_other : (fault : JobFault) → verdict (checks file) ≡ Err fault → Decides false (WellFormed file)
  refuses_other fault e =
      ((λ t. absurd (both_ways false refl t)), (λ w. sym (ap is_ok e) ∙ ap is_ok (passes file w)))

  -- what a refusal answers
  pub refusal : (r : Result Job JobFault) (fault : JobFault) → r ≡ Err fault → verdict (checks file) ≡ Err fault
      → (outcome r ≡ reading file)
      × IfOk r (λ job. file_of job ≡ file)
      × Decides (is_ok r) (WellFormed file)
      × IfErr r (λ f. FirstFault (checks file) f)
  refusal (Ok job) fault e failed = absurd (both_ways false refl (sym (ap is_ok e)))
  refusal (Err f) fault e failed =
      let same : f ≡ fault = cc in
      let failed_so : verdict (checks file) ≡ Err f = failed ∙ ap Err (sym same) in
      (sym (reading_refuses f failed_so), tt, refuses_other f failed_so, first_fault (checks file) f failed_so)

-- what every job's content satisfies
pub job_sound : (job : Job) → Sound (content_of job)
job_sound job = (well_formed (file_of job) (accepted_passes (file_of job) job.accepted)).sound

-- each of its orders may have a due step, and has a label
pub dues_labels : (job : Job) → length (content_of job).dues ≡ length (content_of job).labels
dues_labels job = dues_length (file_of job) ∙ sym (labels_length (file_of job))
