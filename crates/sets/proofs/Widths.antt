-- What the operations on machine words come to, at any width w.
use Rattle.std.proofs.Common.{◌≡◌, ℕ, ◌+◌, ◌-◌, ◌*◌, ◌/◌, ◌%◌, ◌^◌, ◌<◌, ◌≤◌, true, false, ◌&&◌, ◌||◌, eqb, ltb, leb, sym, ap, ◌∙◌, ⊎_elim, arith, pow_mono}
use Rattle.std.proofs.lemmas.Nat.{div_below, le-div, one_shl, pow_pos}
use Rattle.std.proofs.lemmas.Bool.{cases_Bool, cases_lt, both_ways, cond-true, cond-false, and_right, eq-eqb, ne_eqb, le-leb, le-ltb, lt-ltb}
use Rattle.sets.specs.Bits.{has, with, with_in, without}
use Rattle.sets.proofs.Bits.{and_on, or_off, has_high, has-with, with_below}

pub has_past : (w S p : ℕ) → S < 2 ^ w → w ≤ p → ltb p w ≡ has S p
has_past w S p small past = le-ltb p w past ∙ sym (has_high S p w small past)

pub member_below : (w S p : ℕ) → S < 2 ^ w → has S p ≡ true → p < w
member_below w S p small on =
    ⊎_elim (λ h. h) (λ past. absurd (both_ways (has S p) (has_high S p w small past) on)) (cases_lt p w)

pub has-with_in : (w S p q : ℕ) → has (with_in w S p) q ≡ (has S q || (eqb q p && ltb p w))
has-with_in w S p q =
    ⊎_elim
    (λ e.
    ap (λ n. has n q) (cond-true (ltb p w) (with S p) S e)
    ∙ (has-with S p q ∙ ap (λ b. has S q || b) (sym (and_on (eqb q p) (ltb p w) e))))
    (λ e.
    ap (λ n. has n q) (cond-false (ltb p w) (with S p) S e)
    ∙ sym (or_off (has S q) (eqb q p && ltb p w) (and_right (eqb q p) (ltb p w) e)))
    (cases_Bool (ltb p w))

-- a bit that is added
pub added : (w S p : ℕ) → has S p ≡ false → p < w → S + (1 * 2 ^ p) % 2 ^ w ≡ with_in w S p
added w S p off h =
    ap (λ n. S + n) (one_shl p w h)
    ∙ (sym (cond-false (has S p) S (S + 2 ^ p) off) ∙ sym (cond-true (ltb p w) (with S p) S (lt-ltb p w h)))

-- that it fits, and a bit that is taken away
module _ (w S p : ℕ) (small : S < 2 ^ w) where
  pub added_fits : has S p ≡ false → p < w → S + (1 * 2 ^ p) % 2 ^ w < 2 ^ w
  added_fits off h =
      omega (arith, ap (λ n. S + n) (one_shl p w h), cond-false (has S p) S (S + 2 ^ p) off, with_below S p w small h)

  pub taken : has S p ≡ true → S - (1 * 2 ^ p) % 2 ^ w ≡ without S p
  taken on =
      ap (λ n. S - n) (one_shl p w (member_below w S p small on)) ∙ sym (cond-true (has S p) (S - 2 ^ p) S on)

-- the test for a bound, by a shift and past the width
pub shifted_out : (S k : ℕ) → eqb (S / 2 ^ k) 0 ≡ ltb S (2 ^ k)
shifted_out S k =
    ⊎_elim
    (λ h. eq-eqb (S / 2 ^ k) 0 (omega (arith, div_below S (2 ^ k) 1 (pow_pos k) (omega arith))) ∙ sym (lt-ltb S (2 ^ k) h))
    (λ h.
    ne_eqb (S / 2 ^ k) 0 (λ e. omega (arith, le-div 1 S (2 ^ k) (pow_pos k) (omega arith))) ∙ sym (le-ltb S (2 ^ k) h))
    (cases_lt S (2 ^ k))

pub wide_bound : (w S k : ℕ) → S < 2 ^ w → w ≤ k → leb w k ≡ ltb S (2 ^ k)
wide_bound w S k small h =
    let wider : 2 ^ w ≤ 2 ^ k = pow_mono h in le-leb w k h ∙ sym (lt-ltb S (2 ^ k) (omega arith))
