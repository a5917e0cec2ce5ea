use Rattle.std.proofs.Common.{◌≡◌, drop}
use Rattle.std.specs.List.{list_all}
use Rattle.jobfile.specs.Tests.{printable}
use Rattle.jobfile.proofs.checks.is_printable.Given as goal

abbrev pub invariant-loop-byte : goal.invariant-loop-byte
invariant-loop-byte l = list_all printable l.label ≡ list_all printable (drop l.byte-index l.label)
