-- A value of `Best` is known by its meaning.
use Rattle.objectives.specs.BestValues.{ToldByMeaning, costed_of}
use Rattle.objectives.specs.declared.best.CostCount.{CostCount}
use Rattle.std.proofs.Common.{◌≡◌, eqb, Decides, sym, ap}
use Rattle.std.proofs.lemmas.Bool.Decides.{Decides-eqb, Decides-like}
use mathlib.Core.HLevel.{is_prop→PathP, Π_prop}
use native.Mathlib.Nat.{ℕ_set}

module _ (v w : CostCount) (e : v.cost ≡ w.cost) where
  -- what the ghost field says has one proof
  same_value : v.count ≡ w.count → w ≡ v
  same_value f =
      sym
      (λ i. record {
        cost = e i;
        count = f i;
        uncounted = is_prop→PathP (λ j. e j ≡ 4294967295 → f j ≡ 0) (λ j. Π_prop (λ _. ℕ_set _ _)) v.uncounted w.uncounted i;
      })

  -- with equal costs, equal counts decide
  pub decides_value : Decides (eqb v.count w.count) (w ≡ v)
  decides_value = Decides-like _ same_value (λ p. sym (ap (λ x. x.count) p)) (Decides-eqb v.count w.count)

  pub decides_meaning : Decides (eqb v.count w.count) (costed_of w ≡ costed_of v)
  decides_meaning = Decides-like _ (λ f. ap costed_of (same_value f)) (λ p. sym (ap (λ x. x.count) p)) (Decides-eqb v.count w.count)

pub told_by_meaning : ToldByMeaning
told_by_meaning v w e = same_value w v (ap (λ m. m.cost) (sym e)) (ap (λ m. m.count) (sym e))
