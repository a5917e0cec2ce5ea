-- Done sets along a sequence: which sheets they have, what they reach, and what is not done yet.
use Rattle.std.proofs.Common.{◌≡◌, ℕ, zero, suc, ◌+◌, ◌-◌, ◌/◌, ◌^◌, ◌<◌, ◌≤◌, Bool, true, false, cond, not, ◌&&◌, ◌||◌, eqb, ltb, List, [], ◌∷◌, ◌++◌, length, get_or, count_by, sym, refl, ap, ◌∙◌, subst, ap₂, ⊎_elim, arith}
use native.Mathlib.Nat.{pow-succ'}
use lib.Count.{ones}
use Rattle.std.proofs.lemmas.List.FromFn.{length-range_with_len}
use Rattle.std.proofs.lemmas.List.{get_or_past}
use Rattle.std.proofs.lemmas.List.Sums.{sum_by-cons, sum_by-append}
use Rattle.std.proofs.lemmas.Bool.{and_from, and_right, both_ways, cases_Bool, cases_lt, eq-eqb, eqb-true, le-ltb, lt-ltb, ltb-true, or_cases, or_left, or_right}
use Rattle.std.proofs.lemmas.Bool.Decides.{same_from_decides, nat_tests}
use Rattle.std.specs.List.{range_with_len, AllByRecursion as Each}
use Rattle.sets.proofs.Bits.{bit, has_high, has_off, has_on, has-with, below_decides, below_from_bits, off_from_has, on_from_has, ones_counted}
use Rattle.sets.proofs.Reached.{reach_serves}
use Rattle.sets.specs.Bits.{has, with, AllBelow}
use Rattle.sets.specs.Reach.{reach}
use Rattle.sequences.specs.Sequences.{Sequence, times}
use Rattle.sequences.specs.Stacks.{serving}
use Rattle.sequences.specs.StepRules.{undone}
use Rattle.sequences.proofs.Earliest.{any}
use Rattle.sequences.proofs.Sums.{all_parts, counted_once, each_below, sum_like, sum_one}

-- S is the set of the listed sheets
abbrev pub SetOf : List ℕ → ℕ → Type 0
SetOf xs S = (q : ℕ) → has S q ≡ any (eqb q) xs

pub any_append : (a : ℕ → Bool) (xs ys : List ℕ) → any a (xs ++ ys) ≡ (any a xs || any a ys)
any_append a [] ys = refl
any_append a (x ∷ xs) ys = ap (λ b. a x || b) (any_append a xs ys) ∙ from (a x) (any a xs) (any a ys)
  where
    from : (b c d : Bool) → (b || (c || d)) ≡ ((b || c) || d)
    from true c d = refl
    from false c d = refl

-- a listed sheet that passes
pub any_some : (a : ℕ → Bool) (xs : List ℕ) → any a xs ≡ true → (q : ℕ) × (any (eqb q) xs ≡ true) × (a q ≡ true)
any_some a [] e = absurd (both_ways false refl e)
any_some a (x ∷ xs) e =
    ⊎_elim
    (λ here. (x, or_left (eqb x x) (any (eqb x) xs) (eq-eqb x x refl), here))
    (λ there. let s = any_some a xs there in (s.0, or_right (eqb s.0 x) (any (eqb s.0) xs) s.1, s.2))
    (or_cases (a x) (any a xs) e)

pub any_from : (a : ℕ → Bool) (xs : List ℕ) (q : ℕ) → any (eqb q) xs ≡ true → a q ≡ true → any a xs ≡ true
any_from a [] q e h = absurd (both_ways false refl e)
any_from a (x ∷ xs) q e h =
    ⊎_elim
    (λ here. or_left (a x) (any a xs) (subst (λ y. a y ≡ true) (eqb-true q x here) h))
    (λ there. or_right (a x) (any a xs) (any_from a xs q there h))
    (or_cases (eqb q x) (any (eqb q) xs) e)

-- a listed sheet is one of those that all are
pub any_all : (P : ℕ → Type 0) (xs : List ℕ) (q : ℕ) → Each P xs → any (eqb q) xs ≡ true → P q
any_all P [] q h e = absurd (both_ways false refl e)
any_all P (x ∷ xs) q h e =
    ⊎_elim (λ here. subst P (sym (eqb-true q x here)) h.0) (λ there. any_all P xs q h.1 there) (or_cases (eqb q x) (any (eqb q) xs) e)

pub any_counted : (a : ℕ → Bool) (xs : List ℕ) → any a xs ≡ ltb 0 (count_by a xs)
any_counted a [] = refl
any_counted a (x ∷ xs) =
    ap (λ b. a x || b) (any_counted a xs) ∙ (from (a x) (count_by a xs) ∙ ap (ltb 0) (sym (sum_by-cons (λ y. cond (a y) 1 0) x xs)))
  where
    from : (b : Bool) (k : ℕ) → (b || ltb 0 k) ≡ ltb 0 (cond b 1 0 + k)
    from true k = grind (arith, nat_tests)
    from false k = grind (arith, nat_tests)

-- one sheet more is done
pub set_with : (xs : List ℕ) (S p : ℕ) → SetOf xs S → SetOf (xs ++ p ∷ []) (with S p)
set_with xs S p h q =
    has-with S p q ∙ (ap₂ (λ x y. x || y) (h q) (from (eqb q p)) ∙ sym (any_append (eqb q) xs (p ∷ [])))
  where
    from : (b : Bool) → b ≡ (b || false)
    from true = refl
    from false = refl

-- a set of sheets reaches the orders that one of them serves
pub reach_any : (rows xs : List ℕ) (S j : ℕ) → SetOf xs S → has (reach rows S) j ≡ any (serving rows j) xs
reach_any rows xs S j h =
    same_from_decides (has (reach rows S) j) (any (serving rows j) xs) (reach_serves rows S j) (
      (λ e.
          let s = any_some (serving rows j) xs e in
          record { sheet = s.0; listed = listed s.0 s.2; chosen = h s.0 ∙ s.1; serves = s.2 }),
      (λ s. any_from (serving rows j) xs s.sheet (sym (h s.sheet) ∙ s.chosen) s.serves),
    )
  where
    listed : (q : ℕ) → serving rows j q ≡ true → q < length rows
    listed q e =
        ⊎_elim (λ l. l)
        (λ past. absurd (both_ways (has 0 j) (has_high 0 j 0 (omega arith) (omega arith)) (sym (ap (λ row. has row j) (get_or_past rows q 0 past)) ∙ e)))
        (cases_lt q (length rows))

pow_pos : (k : ℕ) → 0 < 2 ^ k
pow_pos zero = omega arith
pow_pos (suc k) = omega (arith, pow-succ' 2 k, pow_pos k)

-- rows without an order of m or above, as numbers
pub rows_below : (rows : List ℕ) (m : ℕ) → Each (λ row. AllBelow row m) rows → (p : ℕ) → get_or rows p 0 < 2 ^ m
rows_below [] m h p = pow_pos m
rows_below (row ∷ rows) m h zero = ltb-true row (2 ^ m) ((below_decides row m).1 h.0)
rows_below (row ∷ rows) m h (suc p) = rows_below rows m h.1 p

-- the bits of what is not done
undone-bit : (n S p : ℕ) → S < 2 ^ n → p < n → bit (undone n S) p ≡ 1 - bit S p
undone-bit zero S p small l = absurd (let z : ⊥ = omega arith in z)
undone-bit (suc n) S zero small l = omega (arith, pow-succ' 2 n)
undone-bit (suc n) S (suc p) small l =
    let half : undone (suc n) S / 2 ≡ undone n (S / 2) = omega (arith, pow-succ' 2 n) in
    ap (λ x. bit x p) half ∙ undone-bit n (S / 2) p (omega (arith, pow-succ' 2 n)) (omega arith)

-- the sheets that are not done
pub has-undone : (n S q : ℕ) → S < 2 ^ n → has (undone n S) q ≡ (ltb q n && not (has S q))
has-undone n S q small =
    ⊎_elim
    (λ inside. from inside (has S q) refl)
    (λ past. has_high (undone n S) q n (omega (arith, pow_pos n)) past ∙ ap (λ b. b && not (has S q)) (sym (le-ltb q n past)))
    (cases_lt q n)
  where
    from : q < n → (b : Bool) → has S q ≡ b → has (undone n S) q ≡ (ltb q n && not b)
    from inside true e =
        has_off (undone n S) q (omega (arith, undone-bit n S q small inside, on_from_has S q e)) ∙ sym (and_right (ltb q n) false refl)
    from inside false e =
        has_on (undone n S) q (omega (arith, undone-bit n S q small inside, off_from_has S q e)) ∙ sym (and_from (ltb q n) true (lt-ltb q n inside) refl)

module _ (n : ℕ) (whole before after : List ℕ) (parts : before ++ after ≡ whole) (is : Sequence n whole) where
  parts_sheets : Each (λ q. q < n) (before ++ after)
  parts_sheets = subst (Each (λ q. q < n)) (sym parts) is.sheets

  pub before_sheets : Each (λ q. q < n) before
  before_sheets = (all_parts (λ q. q < n) before after parts_sheets).0

  pub after_sheets : Each (λ q. q < n) after
  after_sheets = (all_parts (λ q. q < n) before after parts_sheets).1

  -- each sheet is named once, before or after
  pub parts_once : (q : ℕ) → q < n → times before q + times after q ≡ 1
  parts_once q l =
      sym (sum_by-append (λ p. cond (eqb q p) 1 0) before after) ∙ (ap (λ s. times s q) parts ∙ is.once q l)

  -- a done set of sheets before has no sheet of n or above
  pub done_below : (S : ℕ) → SetOf before S → S < 2 ^ n
  done_below S h =
      below_from_bits S n (λ q past. off_from_has S q (h q ∙ ⊎_elim (λ on. absurd (let l = any_all (λ p. p < n) before q before_sheets on in let z : ⊥ = omega arith in z)) (λ off. off) (cases_Bool (any (eqb q) before))))

  -- what is not done are the sheets after
  pub set_undone : (S : ℕ) → SetOf before S → SetOf after (undone n S)
  set_undone S h q =
      has-undone n S q (done_below S h) ∙ (ap (λ b. ltb q n && not b) (h q) ∙ ⊎_elim inside outside (cases_lt q n))
    where
      from : (x y : ℕ) → x + y ≡ 1 → not (ltb 0 x) ≡ ltb 0 y
      from x y e = grind (arith, nat_tests)

      inside : q < n → (ltb q n && not (any (eqb q) before)) ≡ any (eqb q) after
      inside l =
          ap (λ b. b && not (any (eqb q) before)) (lt-ltb q n l)
          ∙ (ap not (any_counted (eqb q) before) ∙ (from (times before q) (times after q) (parts_once q l) ∙ sym (any_counted (eqb q) after)))

      outside : n ≤ q → (ltb q n && not (any (eqb q) before)) ≡ any (eqb q) after
      outside past =
          ap (λ b. b && not (any (eqb q) before)) (le-ltb q n past)
          ∙ sym (⊎_elim (λ on. absurd (let l = any_all (λ p. p < n) after q after_sheets on in let z : ⊥ = omega arith in z)) (λ off. off) (cases_Bool (any (eqb q) after)))

  -- how many sheets a done set has
  pub done_counted : (S : ℕ) → SetOf before S → ones S ≡ length before
  done_counted S h =
      ones_counted S n (done_below S h)
      ∙ (sum_like (λ q. cond (has S q) 1 0) (times before) (range_with_len 0 n) (each_below n once) ∙ counted_once n before before_sheets)
    where
      from : (x : ℕ) → x ≤ 1 → cond (ltb 0 x) 1 0 ≡ x
      from x l = grind (arith, nat_tests)

      once : (q : ℕ) → q < n → ◌≡◌ {A = ℕ} (cond (has S q) 1 0) (times before q)
      once q l =
          ap (λ b. cond b 1 0) (h q ∙ any_counted (eqb q) before) ∙ from (times before q) (omega (arith, parts_once q l))

-- a sequence has as many steps as sheets
pub sequence_length : (n : ℕ) (s : List ℕ) → Sequence n s → length s ≡ n
sequence_length n s is =
    sym (counted_once n s is.sheets) ∙ (sum_like (times s) (λ _. 1) (range_with_len 0 n) (each_below n is.once) ∙ (sum_one (range_with_len 0 n) ∙ length-range_with_len 0 n))
