use Rattle.sequences.proofs.OneJoin.{one_join}
use Rattle.questions.proofs.question.Question.sheets.Goals as goal

pub returns-clause-one : goal.returns-clause-one
returns-clause-one g c =
    let question = c.args.self.now in
    one_join (g.O.Objective.ops question.objective) (g.met.O.Objective.lawful question.objective) (g.R.Rule.asks question.rule) c.sheets.result
