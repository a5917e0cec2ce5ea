use Rattle.std.proofs.Common.{rules}
use Rattle.sets.specs.RowLists.{rows_of}
use Rattle.sequences.specs.Stacks.{serving}
use Rattle.measures.proofs.Places.{first_is, last_is}
use Rattle.measures.proofs.stacks.Stack.of.Goals as goal

pub returns-clause-first : goal.returns-clause-first
returns-clause-first c =
    let a = c.args in first_is (serving (rows_of a.rows.now) a.order) a.sequence.now _ (search rules)

pub returns-clause-last : goal.returns-clause-last
returns-clause-last c =
    let a = c.args in last_is (serving (rows_of a.rows.now) a.order) a.sequence.now _ (search rules)
