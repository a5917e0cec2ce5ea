use Rattle.std.proofs.Common.{ℕ, ◌+◌, max, length, ◌∙◌, rules, tests, arith}
use Rattle.std.proofs.lemmas.Iterator.{YieldsList-from_range}
use Rattle.std.proofs.lemmas.Iterator.Consumers.{fold_from_yields_List}
use Rattle.job.specs.Jobs.{content_of}
use Rattle.sequences.specs.JobCosts.{open_of}
use Rattle.sequences.specs.Stacks.{steps}
use Rattle.measures.proofs.Totals.{largest_is}
use Rattle.measures.proofs.measuring.Sequence.peak.Goals as goal

pub returns : goal.returns
returns c =
    let s = c.args.self.now.sheets.now in
    let counts : ℕ → ℕ = open_of (content_of c.args.self.now.job.now) s in
    record {
      value =
          fold_from_yields_List _ (λ a t. max a (counts t)) 0 c.fold.result c.fold.ensures.ran
          (YieldsList-from_range 1 (length s + 1) (length s) (cc) (omega arith)) (λ a x b q k. search (rules, tests))
          ∙ largest_is counts (steps s);
    }
