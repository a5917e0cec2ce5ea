use Rattle.objectives.proofs.PeakPairs.{pairs_fail}
use Rattle.objectives.proofs.pairs.pairs_of_peak_and_count.Goals as goal

pub returns : goal.returns
returns c = record { fail = pairs_fail }
