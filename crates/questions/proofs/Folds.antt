-- What start, extended by one figure after another, comes to.
use Rattle.std.proofs.Common.{◌≡◌, ◌∙◌, ℕ, ◌+◌, ◌<◌, max, List, [], ◌∷◌, fold, sum, arith}
use Rattle.std.proofs.lemmas.Bool.Decides.{nat_tests}
use Rattle.std.proofs.lemmas.List.Sums.{sum_by-cons}
use Rattle.objectives.specs.Objectives.{Costed, add_cost, dearest, extend_best}
use Rattle.sequences.specs.Stacks.{largest}

pub peak_folded : (v : ℕ) (fs : List ℕ) → fold max v fs ≡ max v (largest fs)
peak_folded v [] = omega arith
peak_folded v (f ∷ fs) = peak_folded (max v f) fs ∙ omega arith

sum-cons : (f : ℕ) (fs : List ℕ) → sum (f ∷ fs) ≡ f + sum fs
sum-cons f fs = sum_by-cons (λ x. x) f fs

abbrev costs : ℕ → ℕ → Costed
costs cost count = record { cost = cost; count = count }

module _ (v f : ℕ) (l : v + f < dearest) where
  added : add_cost v f ≡ v + f
  added = grind (arith, nat_tests)

  added_best : (n : ℕ) → extend_best (costs v n) f ≡ costs (v + f) n
  added_best n = grind (arith, nat_tests)

-- w is the whole sum, and where that is not cut off nothing is
module _ (w : ℕ) (l : w < dearest) where
  pub total_folded : (v : ℕ) (fs : List ℕ) → v + sum fs ≡ w → fold add_cost v fs ≡ w
  total_folded v [] e = omega arith
  total_folded v (f ∷ fs) e =
      let s = sum-cons f fs in
      rw (added v f (omega arith)) (total_folded (v + f) fs (omega arith))

  pub best_folded : (v n : ℕ) (fs : List ℕ) → v + sum fs ≡ w → fold extend_best (costs v n) fs ≡ costs w n
  best_folded v n [] e = let z : v ≡ w = omega arith in cc
  best_folded v n (f ∷ fs) e =
      let s = sum-cons f fs in
      rw (added_best v f (omega arith) n) (best_folded (v + f) n fs (omega arith))
