-- What the rules Open, Due and Limit mean, and how many sheets they know.
use Rattle.std.specs.Prelude.{ℕ, length}
use Rattle.rules.specs.declared.due.Due.{Due}
use Rattle.rules.specs.declared.limit.Limit.{Limit}
use Rattle.rules.specs.declared.stacks.Open.{Open}
use Rattle.rules.specs.DueSets.{overdue_rule}
use Rattle.sets.specs.RowLists.{rows_of}
use Rattle.sequences.specs.Steps.{Meaning}
use Rattle.sequences.specs.StepRules.{limit, open_rule}

abbrev pub open_count : Open → ℕ
open_count r = length (rows_of r.rows)

abbrev pub open_asks : Open → Meaning
open_asks r = open_rule (rows_of r.rows)

abbrev pub due_count : Due → ℕ
due_count r = length (rows_of r.rows)

abbrev pub due_asks : Due → Meaning
due_asks r = overdue_rule (rows_of r.rows) r.overdue

-- of a limit, from what the rule below it means
abbrev pub limit_count : {R : Type 0} → (R → ℕ) → Limit R → ℕ
limit_count count r = count r.below

abbrev pub limit_asks : {R : Type 0} → (R → Meaning) → Limit R → Meaning
limit_asks asks r = limit r.most (asks r.below)
