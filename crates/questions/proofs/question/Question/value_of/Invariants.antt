use Rattle.std.proofs.Common.{◌≡◌, drop}
use Rattle.sequences.specs.Steps.{figures_from}
use Rattle.sequences.specs.Values.{value}
use Rattle.questions.proofs.Walks.{walked}
use Rattle.questions.proofs.question.Question.value_of.Given as goal

abbrev pub invariant-loop-sheet : goal.invariant-loop-sheet
invariant-loop-sheet g l =
    value (g.O.Objective.ops l.self.objective) (g.R.Rule.asks l.self.rule) l.list
    ≡ walked (g.O.Objective.ops l.self.objective) (g.O.Objective.means l.value)
    (figures_from (g.R.Rule.asks l.self.rule) l.done.bits (drop l.sheet-index l.list))
