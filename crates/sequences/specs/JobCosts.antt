-- What a sequence of a job costs.
use Rattle.std.specs.Prelude.{◌≡◌, ℕ, List, map, length, Some, nat_le}
use Rattle.job.specs.Content.{Content}
use Rattle.sequences.specs.Sequences.{Sequence}
use Rattle.sequences.specs.Stacks.{serving, steps, open_orders, peak, spread, lateness}
use Rattle.sequences.specs.Steps.{Meaning, figures, permits}

-- s names each sheet of the job exactly once
abbrev pub SequenceOf : Content → List ℕ → Type 0
SequenceOf job s = Sequence (length job.rows) s

-- how many of the job's orders are open in step t
abbrev pub open_of : Content → List ℕ → ℕ → ℕ
open_of job s t = open_orders (serving job.rows) (length job.labels) s t

abbrev pub peak_of : Content → List ℕ → ℕ
peak_of job s = peak (serving job.rows) (length job.labels) s

abbrev pub spread_of : Content → List ℕ → ℕ
spread_of job s = spread (serving job.rows) (length job.labels) s

abbrev pub lateness_of : Content → List ℕ → ℕ
lateness_of job s = lateness (serving job.rows) (length job.labels) job.dues s

-- every sequence of the job is permitted, and the figure of each step is the number of orders open in it
abbrev pub CountsOpen : Meaning → Content → Type 0
CountsOpen rule job = (s : List ℕ) → SequenceOf job s → figures rule s ≡ Some (map (open_of job s) (steps s))

-- of the job's sequences, just those whose peak is at most k are permitted
abbrev pub PermitsPeaks : ℕ → Meaning → Content → Type 0
PermitsPeaks k rule job = (s : List ℕ) → SequenceOf job s → permits rule s ≡ nat_le (peak_of job s) k
