-- First and last step of an order, by the sheets before and after a step.
use Rattle.std.proofs.Common.{◌≡◌, ℕ, suc, ◌+◌, ◌<◌, ◌≤◌, Bool, true, false, cond, ◌&&◌, ◌||◌, ltb, leb, List, [], ◌∷◌, ◌++◌, length, refl, ap, ◌∙◌, ap₂, ⊎_elim, arith}
use lib.Dec.{leb-suc-suc}
use Rattle.std.proofs.lemmas.Bool.{cases_lt, cond-false, cond-true, le-leb, le-ltb, lt-leb, lt-ltb}
use Rattle.std.proofs.lemmas.Bool.Decides.{nat_tests}
use Rattle.sequences.specs.Stacks.{first, last, is_open}

-- some sheet of the list passes the test
abbrev pub any : (ℕ → Bool) → List ℕ → Bool
any a [] = false
any a (p ∷ s) = a p || any a s

module _ (a : ℕ → Bool) where
  pub first_past : (s : List ℕ) → 1 ≤ first a s
  first_past [] = omega arith
  first_past (p ∷ s) = from (a p) (first a s)
    where
      from : (b : Bool) (x : ℕ) → 1 ≤ cond b 1 (suc x)
      from true x = omega arith
      from false x = omega arith

  pub last_within : (s : List ℕ) → last a s ≤ length s
  last_within [] = omega arith
  last_within (p ∷ s) = from (a p || ltb 0 (last a s)) (last a s) (length s) (last_within s)
    where
      from : (b : Bool) (x y : ℕ) → x ≤ y → cond b (suc x) 0 ≤ suc y
      from true x y h = omega arith
      from false x y h = omega arith

  -- an order has a last step where some sheet serves it
  pub last_any : (s : List ℕ) → ltb 0 (last a s) ≡ any a s
  last_any [] = refl
  last_any (p ∷ s) = from (a p) (last a s) ∙ ap (λ b. a p || b) (last_any s)
    where
      from : (b : Bool) (x : ℕ) → ltb 0 (cond (b || ltb 0 x) (suc x) 0) ≡ (b || ltb 0 x)
      from true x = grind (arith, nat_tests)
      from false x = grind (arith, nat_tests)

  -- by the step after some sheets the order has opened, exactly where one of them or the next one serves it
  pub opened : (before after : List ℕ) (p : ℕ)
      → leb (first a (before ++ p ∷ after)) (suc (length before)) ≡ any a (before ++ p ∷ [])
  opened [] after p = from (a p) (first a after) (first_past after)
    where
      from : (b : Bool) (x : ℕ) → 1 ≤ x → leb (cond b 1 (suc x)) 1 ≡ (b || false)
      from true x h = refl
      from false x h = lt-leb (suc x) 1 (omega arith)
  opened (q ∷ before) after p = from (a q) (first a (before ++ p ∷ after)) (length before) (any a (before ++ p ∷ [])) (opened before after p)
    where
      from : (b : Bool) (x k : ℕ) (r : Bool) → leb x (suc k) ≡ r → leb (cond b 1 (suc x)) (suc (suc k)) ≡ (b || r)
      from true x k r h = le-leb 1 (suc (suc k)) (omega arith)
      from false x k r h = leb-suc-suc x (suc k) ∙ h

  -- in the step after some sheets the order is still to be closed, exactly where the next one or a later one serves it
  pub unclosed : (before after : List ℕ) (p : ℕ)
      → leb (suc (length before)) (last a (before ++ p ∷ after)) ≡ any a (p ∷ after)
  unclosed [] after p = last_any (p ∷ after)
  unclosed (q ∷ before) after p = from (a q) (last a (before ++ p ∷ after)) (length before) ∙ unclosed before after p
    where
      from : (b : Bool) (x k : ℕ) → leb (suc (suc k)) (cond (b || ltb 0 x) (suc x) 0) ≡ leb (suc k) x
      from true x k = grind (arith, nat_tests)
      from false x k = grind (arith, nat_tests)

  -- a step between first and last is enough to be open
  pub between : (s : List ℕ) (t : ℕ) → is_open a s t ≡ (leb (first a s) t && leb t (last a s))
  between s t = from (first a s) (last a s) t
    where
      from : (f l t : ℕ) → (leb f l && (leb f t && leb t l)) ≡ (leb f t && leb t l)
      from f l t = grind (arith, nat_tests)

  -- open in the step after some sheets: an earlier sheet or the next one serves the order, and so does the next or a later one
  pub open_in_step : (before after : List ℕ) (p : ℕ)
      → is_open a (before ++ p ∷ after) (suc (length before)) ≡ (any a (before ++ p ∷ []) && any a (p ∷ after))
  open_in_step before after p =
      between (before ++ p ∷ after) (suc (length before)) ∙ ap₂ (λ x y. x && y) (opened before after p) (unclosed before after p)

-- one sheet more at the end of a sequence
module _ (a : ℕ → Bool) (p : ℕ) where
  pub first_served : a p ≡ true → (s : List ℕ) → first a (s ++ p ∷ []) ≡ first a s
  first_served on [] = cond-true (a p) 1 2 on
  first_served on (q ∷ s) = ap (λ x. cond (a q) 1 (suc x)) (first_served on s)

  pub last_served : a p ≡ true → (s : List ℕ) → last a (s ++ p ∷ []) ≡ length s + 1
  last_served on [] = ap (λ b. cond (b || false) 1 0) on
  last_served on (q ∷ s) = ap (λ x. cond (a q || ltb 0 x) (suc x) 0) (last_served on s) ∙ from (a q) (length s)
    where
      from : (b : Bool) (k : ℕ) → cond (b || ltb 0 (k + 1)) (suc (k + 1)) 0 ≡ suc k + 1
      from true k = omega arith
      from false k = grind (arith, nat_tests)

  pub last_unserved : a p ≡ false → (s : List ℕ) → last a (s ++ p ∷ []) ≡ last a s
  last_unserved off [] = ap (λ b. cond (b || false) 1 0) off
  last_unserved off (q ∷ s) = ap (λ x. cond (a q || ltb 0 x) (suc x) 0) (last_unserved off s)

  -- no sheet has served the order yet, or one has
  pub first_unserved : a p ≡ false → (s : List ℕ) → last a s ≡ 0 → first a (s ++ p ∷ []) ≡ length s + 2
  first_unserved off [] none = cond-false (a p) 1 2 off
  first_unserved off (q ∷ s) none = from (a q) (last a s) (first a (s ++ p ∷ [])) (length s) none (first_unserved off s)
    where
      from : (b : Bool) (l f k : ℕ) → cond (b || ltb 0 l) (suc l) 0 ≡ 0 → (l ≡ 0 → f ≡ k + 2) → cond b 1 (suc f) ≡ suc k + 2
      from true l f k e h = absurd (let z : ⊥ = omega arith in z)
      from false l f k e h =
          ⊎_elim
          (λ some. absurd (let z = cond-true (ltb 0 l) (suc l) 0 (lt-ltb 0 l some) in let y : ⊥ = omega arith in y))
          (λ zero. let e = h (omega arith) in omega arith)
          (cases_lt 0 l)

  pub first_kept : a p ≡ false → (s : List ℕ) → 0 < last a s → first a (s ++ p ∷ []) ≡ first a s
  first_kept off [] some = absurd (let z : ⊥ = omega arith in z)
  first_kept off (q ∷ s) some = from (a q) (last a s) (first a (s ++ p ∷ [])) (first a s) some (first_kept off s)
    where
      from : (b : Bool) (l f g : ℕ) → 0 < cond (b || ltb 0 l) (suc l) 0 → (0 < l → f ≡ g) → cond b 1 (suc f) ≡ cond b 1 (suc g)
      from true l f g e h = refl
      from false l f g e h =
          ⊎_elim
          (λ some. ap suc (h some))
          (λ zero. absurd (let z = cond-false (ltb 0 l) (suc l) 0 (le-ltb 0 l zero) in let y : ⊥ = omega arith in y))
          (cases_lt 0 l)
