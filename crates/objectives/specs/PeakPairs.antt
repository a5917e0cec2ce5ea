-- Pairs of a peak and a count, which look like an objective and are none: what the table would answer with them is wrong.
use Rattle.std.specs.Prelude.{◌≡◌, ℕ, max, Bool, true, ◌&&◌, List, [], ◌∷◌, Some, count_by, nat_eq, nat_lt}
use Rattle.objectives.specs.Objectives.{Costed, join_best}
use Rattle.sequences.specs.Joins.{join_of, lists_of, permitted_of}
use Rattle.sequences.specs.Sequences.{is_sequence}
use Rattle.sequences.specs.Stacks.{serving, peak}
use Rattle.sequences.specs.StepRules.{open_rule}
use Rattle.sequences.specs.Sweeps.{swept_value}
use Rattle.sequences.specs.Values.{Ops, Lawful}

abbrev pub peak_count : ℕ → ℕ → Costed
peak_count peak count = record { cost = peak; count = count }

-- extend takes the larger peak and keeps the count
abbrev pub extend_pair : Costed → ℕ → Costed
extend_pair v figure = peak_count (max v.cost figure) v.count

-- join is that of `Best`, with peaks for costs
abbrev pub pair_ops : Ops Costed
pair_ops = record { start = peak_count 0 1; extend = extend_pair; join = join_best }

-- four sheets and six orders
abbrev pub pair_rows : List ℕ
pair_rows = 3 ∷ 6 ∷ 1 ∷ 56 ∷ []

abbrev pub pair_peak : List ℕ → ℕ
pair_peak = peak (serving pair_rows) 6

-- how many sequences of the job pass the test
abbrev pub sequences_that : (List ℕ → Bool) → ℕ
sequences_that test = count_by (λ s. is_sequence 4 s && test s) (lists_of 4 4)

-- Pairs break the third law. The job's least peak is 3, and the table counts another number of sequences with it than there are.
pub record PairsFail (swept counted : ℕ) : Type 0 where
  pub not_third : extend_pair (join_best (peak_count 0 1) (peak_count 1 1)) 1 ≡ join_best (extend_pair (peak_count 0 1) 1) (extend_pair (peak_count 1 1) 1) → ⊥
  pub not_lawful : Lawful pair_ops → ⊥
  pub from_the_table : swept_value pair_ops 4 (open_rule pair_rows) ≡ Some (peak_count 3 swept)
  pub from_all : join_of pair_ops (open_rule pair_rows) (permitted_of 4 (open_rule pair_rows)) ≡ Some (peak_count 3 counted)
  pub all_sequences : sequences_that (λ _. true) ≡ 24
  pub lower_peaks : sequences_that (λ s. nat_lt (pair_peak s) 3) ≡ 0
  pub least_peaks : sequences_that (λ s. nat_eq (pair_peak s) 3) ≡ counted
  pub not_the_same : swept ≡ counted → ⊥
