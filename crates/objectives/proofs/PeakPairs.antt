-- Pairs of a peak and a count fail.
use Rattle.objectives.specs.Objectives.{join_best}
use Rattle.objectives.specs.PeakPairs.{PairsFail, extend_pair, pair_ops, peak_count, pair_rows, pair_peak, sequences_that}
use Rattle.sequences.specs.Joins.{join_of, permitted_of}
use Rattle.sequences.specs.StepRules.{open_rule}
use Rattle.sequences.specs.Sweeps.{swept_value}
use Rattle.std.proofs.Common.{◌≡◌, true, eqb, ltb, Some, refl, ap, arith}

-- peaks 0 and 1, extended by 1: the count of their join is 1, and that of the two extended is 2
not_third : extend_pair (join_best (peak_count 0 1) (peak_count 1 1)) 1 ≡ join_best (extend_pair (peak_count 0 1) 1) (extend_pair (peak_count 1 1) 1) → ⊥
not_third law = let e = ap (λ v. v.count) law in omega (arith, e)

swept_10 : swept_value pair_ops 4 (open_rule pair_rows) ≡ Some (peak_count 3 10)
unfolding lib.Count.ones
swept_10 = refl

all_12 : join_of pair_ops (open_rule pair_rows) (permitted_of 4 (open_rule pair_rows)) ≡ Some (peak_count 3 12)
unfolding lib.Count.ones
all_12 = refl

all_24 : sequences_that (λ _. true) ≡ 24
all_24 = refl

lower_0 : sequences_that (λ s. ltb (pair_peak s) 3) ≡ 0
lower_0 = refl

least_12 : sequences_that (λ s. eqb (pair_peak s) 3) ≡ 12
least_12 = refl

pub pairs_fail : PairsFail 10 12
pairs_fail =
    record {
      not_third = not_third;
      not_lawful = λ laws. not_third (laws.dist (peak_count 0 1) (peak_count 1 1) 1 (omega arith));
      from_the_table = swept_10;
      from_all = all_12;
      all_sequences = all_24;
      lower_peaks = lower_0;
      least_peaks = least_12;
      not_the_same = λ e. omega (arith, e);
    }
