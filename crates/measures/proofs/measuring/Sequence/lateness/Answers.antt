use Rattle.std.proofs.Common.{rules, tests, arith}
use Rattle.std.proofs.lemmas.Iterator.Adapters.{fits_from_length}
use Rattle.measures.proofs.Totals.{few_orders}
use Rattle.measures.proofs.measuring.Sequence.lateness.Goals as goal

pub sum-requires-clause-fits : goal.sum-requires-clause-fits
sum-requires-clause-fits c =
    fits_from_length _ _ 65535 _ (few_orders c.orders.result (cc) c.orders.type_inv)
    c.map.ensures.closure (omega arith) (λ x r q k. search (rules, tests))
