use Rattle.std.proofs.Common.{append_assoc, rules}
use Rattle.jobinfo.proofs.describe.order_line.Goals as goal

pub returns-in_ok-number-in-Some : goal.returns-in_ok-number-in-Some
returns-in_ok-number-in-Some c = search (rules, append_assoc)

pub returns-in_ok-word-in-None : goal.returns-in_ok-word-in-None
returns-in_ok-word-in-None c = search (rules, append_assoc)
