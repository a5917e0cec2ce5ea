use Rattle.rules.proofs.Limits.{figures-pile, figures-within}
use Rattle.rules.proofs.limit.Limit.new.Goals as goal

pub returns-clause-figures : goal.returns-clause-figures
returns-clause-figures g c = λ s. figures-within c.args.k (g.R.Rule.asks c.args.below) s

pub returns-clause-pile : goal.returns-clause-pile
returns-clause-pile g c = λ ks s. figures-pile ks c.args.k (g.R.Rule.asks c.args.below) s
