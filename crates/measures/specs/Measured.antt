-- The measures of a sequence of a job.
use Rattle.std.specs.Prelude.{ℕ, cond, List, length, Some, None, Option}
use Rattle.job.specs.Content.{Content}
use Rattle.sequences.specs.JobCosts.{lateness_of, peak_of, spread_of}
use Rattle.sequences.specs.Sequences.{is_sequence}
use Rattle.measures.specs.declared.measuring.Measures.{Measures}

-- peak, spread and lateness of a sequence
abbrev pub measures_of : Content → List ℕ → Measures
measures_of job s =
    record {
      peak = peak_of job s;
      spread = spread_of job s;
      lateness = lateness_of job s;
    }

-- the measures of a list of numbers; nothing where it is no sequence of the job's sheets
abbrev pub measured : Content → List ℕ → Option Measures
measured job s = cond (is_sequence (length job.rows) s) (Some (measures_of job s)) None
