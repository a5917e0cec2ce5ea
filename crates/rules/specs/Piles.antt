-- Limits over a rule, and limits over those: which sequences a pile of them permits.
use Rattle.std.specs.Prelude.{ℕ, cond, List, [], ◌∷◌, Some, None, Option, nat_le}
use Rattle.sequences.specs.Steps.{Meaning}
use Rattle.sequences.specs.StepRules.{limit}
use Rattle.std.specs.List.{list_all}

-- the figures of a sequence, where all of them are at most k
abbrev pub within : ℕ → Option (List ℕ) → Option (List ℕ)
within k None = None
within k (Some fs) = cond (list_all (λ f. nat_le f k) fs) (Some fs) None

-- limits on top of a rule, the first one uppermost
abbrev pub pile : List ℕ → Meaning → Meaning
pile [] rule = rule
pile (k ∷ ks) rule = limit k (pile ks rule)

-- the figures of a sequence, where all of them are within each limit
abbrev pub within_all : List ℕ → Option (List ℕ) → Option (List ℕ)
within_all [] figures = figures
within_all (k ∷ ks) figures = within k (within_all ks figures)
