use Rattle.std.proofs.Common.{◌≡◌, ℕ, ◌-◌, ◌<◌, List}
use Rattle.faults.specs.declared.job.JobFault.{JobFault}
use Rattle.jobfile.specs.Check.{Check, in_turn, verdict}
use Rattle.jobfile.proofs.checks.in_turn.Given as goal

abbrev pub invariant-loop-n : goal.invariant-loop-n
invariant-loop-n g l =
    (checks : ℕ → List (Check JobFault)) → ((n : ℕ) (r : _) → n < l.count → goal.F-post g l.check n r → r ≡ verdict (checks n))
    → verdict (in_turn checks 0 l.count) ≡ verdict (in_turn checks l.n (l.count - l.n))
