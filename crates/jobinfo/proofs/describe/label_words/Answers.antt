use Rattle.std.proofs.Common.{ℕ, List, rules, arith, length, slice_index}
use Rattle.std.proofs.lemmas.Iterator.{YieldsList-from_range}
use Rattle.std.proofs.lemmas.Iterator.Consumers.{YieldsList-from_filter}
use Rattle.std.proofs.lemmas.List.Folds.{flat_map-map}
use Rattle.job.specs.Jobs.{content_of}
use Rattle.lines.specs.Lines.{spaced}
use Rattle.sets.specs.Bits.{has}
use Rattle.jobinfo.specs.Wording.{label_of}
use Rattle.jobinfo.proofs.Growth.{grown}
use Rattle.jobinfo.proofs.describe.label_words.Goals as goal

pub returns : goal.returns
returns c =
    let content = content_of c.args.job.now in
    let word : ℕ → List ℕ = λ order. spaced (label_of content order) in
    let orders = YieldsList-from_range 0 _ (length content.labels) c.filter.ensures.source (omega (arith, c.orders.ensures.value)) in
    record {
      value =
          rw flat_map-map (grown _ _ word _ (λ t x r q k. search rules)
          (YieldsList-from_filter _ (has (slice_index content.rows c.args.sheet)) orders c.filter.ensures.closure (λ x r q k. search rules))
          c.args.text _ _ _ c.try_fold.ensures.ran);
    }
