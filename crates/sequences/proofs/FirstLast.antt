-- First and last are the steps of the earliest and the latest sheet.
use Rattle.std.proofs.Common.{◌≡◌, ℕ, zero, suc, ◌+◌, ◌<◌, Bool, true, false, cond, ◌||◌, ltb, List, [], ◌∷◌, length, get_or, sym, ap, ◌∙◌, subst, ⊎_elim, arith}
use Rattle.std.proofs.lemmas.Bool.{cases_Bool, cases_lt, cond-false, cond-true, le-ltb, lt-ltb, or_from, or_left, or_right}
use Rattle.sequences.specs.Stacks.{IsFirst, IsLast, first, last}

module _ (a : ℕ → Bool) where
  -- the first sheet serves
  first_here : (p : ℕ) (s : List ℕ) → a p ≡ true → IsFirst a (p ∷ s) 1
  first_here p s on =
      record {
        counted = omega arith;
        within = omega arith;
        served = λ i e l. ap (λ k. a (get_or (p ∷ s) k 0)) (let z : i ≡ 0 = omega arith in z) ∙ on;
        none_before = λ i e l. absurd (let z : ⊥ = omega arith in z);
      }

  -- it does not, and the rest of the sequence decides
  first_later : (p : ℕ) (s : List ℕ) (f : ℕ) → a p ≡ false → IsFirst a s f → IsFirst a (p ∷ s) (suc f)
  first_later p s f off h =
      record { counted = omega arith; within = (let l = h.within in omega arith); served = served; none_before = none_before }
    where
      served : (i : ℕ) → i + 1 ≡ suc f → i < length (p ∷ s) → a (get_or (p ∷ s) i 0) ≡ true
      served zero e l = absurd (let c = h.counted in let z : ⊥ = omega arith in z)
      served (suc i) e l = h.served i (omega arith) (omega arith)

      none_before : (i : ℕ) → i + 1 < suc f → i < length (p ∷ s) → a (get_or (p ∷ s) i 0) ≡ false
      none_before zero e l = off
      none_before (suc i) e l = h.none_before i (omega arith) (omega arith)

  pub is_first : (s : List ℕ) → IsFirst a s (first a s)
  is_first [] =
      record {
        counted = omega arith;
        within = omega arith;
        served = λ i e l. absurd (let z : ⊥ = omega arith in z);
        none_before = λ i e l. absurd (let z : ⊥ = omega arith in z);
      }
  is_first (p ∷ s) =
      ⊎_elim
      (λ on. subst (IsFirst a (p ∷ s)) (sym (cond-true (a p) 1 (suc (first a s)) on)) (first_here p s on))
      (λ off. subst (IsFirst a (p ∷ s)) (sym (cond-false (a p) 1 (suc (first a s)) off)) (first_later p s (first a s) off (is_first s)))
      (cases_Bool (a p))

  -- a later sheet serves, or this one does
  last_later : (p : ℕ) (s : List ℕ) (l : ℕ) → (l ≡ 0 → a p ≡ true) → IsLast a s l → IsLast a (p ∷ s) (suc l)
  last_later p s l here h = record { within = (let w = h.within in omega arith); served = served; none_after = none_after }
    where
      served : (i : ℕ) → i + 1 ≡ suc l → i < length (p ∷ s) → a (get_or (p ∷ s) i 0) ≡ true
      served zero e k = here (omega arith)
      served (suc i) e k = h.served i (omega arith) (omega arith)

      none_after : (i : ℕ) → suc l < i + 1 → i < length (p ∷ s) → a (get_or (p ∷ s) i 0) ≡ false
      none_after zero e k = absurd (let z : ⊥ = omega arith in z)
      none_after (suc i) e k = h.none_after i (omega arith) (omega arith)

  last_some : (p : ℕ) (s : List ℕ) (l : ℕ) → (a p || ltb 0 l) ≡ true → (l ≡ 0 → a p ≡ true) → IsLast a s l
      → IsLast a (p ∷ s) (cond (a p || ltb 0 l) (suc l) 0)
  last_some p s l e here h = subst (IsLast a (p ∷ s)) (sym (cond-true (a p || ltb 0 l) (suc l) 0 e)) (last_later p s l here h)

  last_none : (p : ℕ) (s : List ℕ) → a p ≡ false → IsLast a s 0 → IsLast a (p ∷ s) 0
  last_none p s off h = record { within = omega arith; served = λ i e k. absurd (let z : ⊥ = omega arith in z); none_after = none_after }
    where
      none_after : (i : ℕ) → 0 < i + 1 → i < length (p ∷ s) → a (get_or (p ∷ s) i 0) ≡ false
      none_after zero e k = off
      none_after (suc i) e k = h.none_after i (omega arith) (omega arith)

  pub is_last : (s : List ℕ) → IsLast a s (last a s)
  is_last [] =
      record {
        within = omega arith;
        served = λ i e l. absurd (let z : ⊥ = omega arith in z);
        none_after = λ i e l. absurd (let z : ⊥ = omega arith in z);
      }
  is_last (p ∷ s) =
      let l = last a s in
      ⊎_elim
      (λ on. last_some p s l (or_left (a p) (ltb 0 l) on) (λ _. on) (is_last s))
      (λ off.
      ⊎_elim
      (λ later. last_some p s l (or_right (a p) (ltb 0 l) (lt-ltb 0 l later)) (λ e. absurd (let z : ⊥ = omega arith in z)) (is_last s))
      (λ none.
      subst (IsLast a (p ∷ s)) (sym (cond-false (a p || ltb 0 l) (suc l) 0 (or_from (a p) (ltb 0 l) off (le-ltb 0 l none))))
      (last_none p s off (subst (IsLast a s) (let z : l ≡ 0 = omega arith in z) (is_last s))))
      (cases_lt 0 l))
      (cases_Bool (a p))
