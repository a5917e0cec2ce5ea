use Rattle.std.proofs.Common.{rules}
use Rattle.std.proofs.lemmas.Bool.Decides.{Decides-at}
use Rattle.sequences.proofs.Naming.{is_sequence_lem}
use Rattle.sequences.specs.Sequences.{is_sequence}
use Rattle.measures.proofs.naming.is_sequence.Goals as goal

pub returns-then-all_below-clause-meaning : goal.returns-then-all_below-clause-meaning
returns-then-all_below-clause-meaning c =
    let a = c.args in
    Decides-at c.each_once.result (is_sequence a.sheets a.list.now) (search rules) (is_sequence_lem a.sheets a.list.now)

pub returns-else-all_below-clause-meaning : goal.returns-else-all_below-clause-meaning
returns-else-all_below-clause-meaning c =
    let a = c.args in
    Decides-at c.all_below.result (is_sequence a.sheets a.list.now) (search rules) (is_sequence_lem a.sheets a.list.now)
