use Rattle.objectives.proofs.Preorder.{dear_preorder}
use Rattle.objectives.proofs.dearness.at_most_as_dear.Goals as goal

pub returns-clause-preorder : goal.returns-clause-preorder
returns-clause-preorder g c =
    let o = c.args.objective.now in
    dear_preorder (g.O.Objective.ops o) (g.met.O.Objective.lawful o) (g.met.O.Picking.picks o)
