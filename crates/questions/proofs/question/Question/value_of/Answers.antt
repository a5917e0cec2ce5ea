use Rattle.std.proofs.lemmas.List.{at_drop_all}
use Rattle.sequences.specs.Steps.{figures_from}
use Rattle.questions.proofs.Walks.{value_on, value_stops, walk_starts, walked}
use Rattle.questions.proofs.question.Question.value_of.Goals as goal

pub loop-sheet-init : goal.loop-sheet-init
loop-sheet-init g c = walk_starts (g.O.Objective.ops c.args.self.now.objective) _ _ c.start-value.ensures.value

pub returns-in_err-figure : goal.returns-in_err-figure
returns-in_err-figure g c =
    let question = c.args.self.now in
    let stops = value_stops (g.O.Objective.ops question.objective) (g.R.Rule.asks question.rule) _ _ _ _ c.loop-sheet-test.true c.loop-sheet.invariant (cc c.in_err-figure.was) in
    record { value = cc }

pub loop-sheet-preserved : goal.loop-sheet-preserved
loop-sheet-preserved g c =
    let question = c.args.self.now in
    value_on (g.O.Objective.ops question.objective) (g.R.Rule.asks question.rule) _ _ _ _ c.loop-sheet-test.true c.loop-sheet.invariant _
    (g.met.R.Rule.keeps question.rule) c.in_ok-figure.figure _ _ (cc c.in_ok-figure.was) c.extend-value.ensures.value c.with-done.ensures.value

pub returns : goal.returns
returns g c =
    let question = c.args.self.now in
    let walk = walked (g.O.Objective.ops question.objective) (g.O.Objective.means c.loop-sheet.value) in
    let ends = at_drop_all (λ left. walk (figures_from (g.R.Rule.asks question.rule) c.loop-sheet.done.bits left)) _ _ c.loop-sheet-test.false in
    record { value = cc }
