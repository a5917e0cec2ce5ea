-- What the value of a sequence of a job is, under a rule and an objective.
use Rattle.std.specs.Prelude.{◌≡◌, ℕ, ◌<◌, cond, List, Some, None, Option, nat_le}
use Rattle.job.specs.Content.{Content}
use Rattle.objectives.specs.Objectives.{Costed, count_ops, dearest}
use Rattle.sequences.specs.JobCosts.{SequenceOf, peak_of}
use Rattle.sequences.specs.Steps.{Meaning}
use Rattle.sequences.specs.Values.{Ops, value}

-- every sequence of the job is permitted, and its value is its cost
abbrev pub ValuesAre : {M : Type 0} → Ops M → Meaning → Content → (List ℕ → M) → Type 0
ValuesAre o rule job cost = (s : List ℕ) → SequenceOf job s → value o rule s ≡ Some (cost s)

-- no sequence of the job has so high a cost that a sum would be cut off
abbrev pub NothingCut : Content → (List ℕ → ℕ) → Type 0
NothingCut job cost = (s : List ℕ) → SequenceOf job s → cost s < dearest

-- a cost, once
abbrev pub once : (List ℕ → ℕ) → List ℕ → Costed
once cost s = record { cost = cost s; count = 1 }

-- each sequence whose peak is at most k counts as 1, and no other is permitted
abbrev pub CountsPeaks : ℕ → Meaning → Content → Type 0
CountsPeaks k rule job = (s : List ℕ) → SequenceOf job s → value count_ops rule s ≡ cond (nat_le (peak_of job s) k) (Some 1) None

-- what an answer means, if there is one
abbrev pub valued : {V M : Type 0} → (V → M) → Option V → Option M
valued means None = None
valued means (Some v) = Some (means v)
