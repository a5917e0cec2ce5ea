-- An order has one earliest step and one latest step.
use Rattle.std.proofs.Common.{◌≡◌, ℕ, zero, suc, ◌≤◌, Bool, List, sym, ◌∙◌, ⊎_elim, arith}
use Rattle.std.proofs.lemmas.Bool.{cases_lt, false≢true}
use Rattle.sequences.proofs.FirstLast.{is_first, is_last}
use Rattle.sequences.specs.Stacks.{IsFirst, IsLast, first, last}

module _ (a : ℕ → Bool) (s : List ℕ) where
  first_ge : (t u : ℕ) → IsFirst a s t → IsFirst a s u → u ≤ t
  first_ge zero u h k = absurd (let l = h.counted in omega arith)
  first_ge (suc i) u h k =
      ⊎_elim
      (λ l. let w = k.within in absurd (false≢true (sym (k.none_before i (omega arith) (omega arith)) ∙ h.served i (omega arith) (omega arith))))
      (λ l. l)
      (cases_lt (suc i) u)

  last_le : (t u : ℕ) → IsLast a s t → IsLast a s u → t ≤ u
  last_le zero u h k = omega arith
  last_le (suc i) u h k =
      ⊎_elim
      (λ l. let w = h.within in absurd (false≢true (sym (k.none_after i (omega arith) (omega arith)) ∙ h.served i (omega arith) (omega arith))))
      (λ l. l)
      (cases_lt u (suc i))

  pub first_is : (t : ℕ) → IsFirst a s t → t ≡ first a s
  first_is t h = let k = is_first a s in omega (arith, first_ge t (first a s) h k, first_ge (first a s) t k h)

  pub last_is : (t : ℕ) → IsLast a s t → t ≡ last a s
  last_is t h = let k = is_last a s in omega (arith, last_le t (last a s) h k, last_le (last a s) t k h)
