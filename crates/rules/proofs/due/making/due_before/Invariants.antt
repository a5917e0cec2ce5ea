use Rattle.std.proofs.Common.{◌≡◌, ℕ, ◌&&◌, ltb, get_or, None}
use Rattle.job.specs.Jobs.{content_of}
use Rattle.sequences.specs.StepRules.{due_before}
use Rattle.sets.specs.Bits.{has}
use Rattle.sets.specs.Orders.{members}
use Rattle.rules.proofs.due.making.due_before.Given as goal

-- the orders looked at so far are in the set if they are due before the step
abbrev pub invariant-loop-order : goal.invariant-loop-order
invariant-loop-order l =
    (j : ℕ) → has (members l.orders) j ≡ (ltb j l.order && due_before l.step (get_or (content_of l.job).dues j None))
