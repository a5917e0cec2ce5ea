-- What a value of `Best` means.
use Rattle.std.specs.Prelude.{◌≡◌}
use Rattle.objectives.specs.Objectives.{Costed, dearest}
use Rattle.objectives.specs.declared.best.CostCount.{CostCount}

-- its cost and its count, both as they are
abbrev pub costed_of : CostCount → Costed
costed_of v = record { cost = v.cost; count = v.count }

-- a sum that was cut off at the top is no sequence's cost: so of every value, also of one that is only lent
abbrev pub CutOffUncounted : Type 0
CutOffUncounted = (v : CostCount) → (costed_of v).cost ≡ dearest → (costed_of v).count ≡ 0

-- of any two values too: with the same cost and the same count they are the same
abbrev pub ToldByMeaning : Type 0
ToldByMeaning = (v w : CostCount) → costed_of v ≡ costed_of w → v ≡ w
