use Rattle.objectives.proofs.BestValues.{told_by_meaning}
use Rattle.objectives.proofs.best.CostCount.same.Goals as goal

pub returns-clause-every : goal.returns-clause-every
returns-clause-every c = told_by_meaning
