use Rattle.std.proofs.Common.{rules, tests, arith, ◌^◌, ◌-◌}
use Rattle.std.proofs.lemmas.Iterator.{YieldsList-from_slice}
use Rattle.std.proofs.lemmas.Iterator.Adapters.{at_most_from_yields_List, fits_from_length}
use Rattle.measures.proofs.naming.times.Goals as goal

-- no list is longer than a count can be
pub sum-requires-clause-fits : goal.sum-requires-clause-fits
sum-requires-clause-fits c =
    fits_from_length _ _ (2 ^ 64 - 1) _ (at_most_from_yields_List (YieldsList-from_slice c.args.list.now (cc)) (omega (arith, c.iter.ensures.len, c.iter.ensures.bound)))
    c.map.ensures.closure (omega arith) (λ x r q k. search (rules, tests))
