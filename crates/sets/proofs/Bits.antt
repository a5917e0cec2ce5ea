-- Laws of the bits of a number, each proved once by halving.
use Rattle.std.proofs.Common.{◌≡◌, ℕ, zero, suc, ◌+◌, ◌-◌, ◌/◌, ◌%◌, ◌^◌, ◌<◌, ◌≤◌, Bool, true, false, cond, not, ◌&&◌, ◌||◌, eqb, ltb, Decides, count_by, sym, refl, ap, ◌∙◌, ⊎_elim, div-one, arith}
use mathlib.Core.Path.{fun_ext}
use native.Mathlib.Nat.{pow-succ', div-div-eq-div-mul}
use lib.Bits.{bit_and, bit_or, and_le_l, and_shr, or_shr, and_mod, or_mod}
use lib.Count.{ones, ones_step, ones-ones}
use Rattle.std.proofs.lemmas.Nat.{shr-shr}
use Rattle.std.proofs.lemmas.List.Sums.{sum_by-cons}
use Rattle.std.proofs.lemmas.Bool.{eq-eqb, ne_eqb, eqb-true, eqb-false, cases_Bool, cases_eq, lt-ltb, ltb-true, cond-true, cond-false, or_left, or_right, or_from, and_right, not_from_true, not_from_false}
use Rattle.std.specs.List.{range_with_len}
use Rattle.sets.specs.Bits.{has, with, without, AllBelow, Empty}

-- bit p by halving p times
abbrev pub bit : ℕ → ℕ → ℕ
bit S zero = S % 2
bit S (suc p) = bit (S / 2) p

pub bit_is : (S p : ℕ) → S / 2 ^ p % 2 ≡ bit S p
bit_is S zero = ap (λ n. n % 2) (div-one S)
bit_is S (suc p) =
    ap (λ n. n % 2) (ap (λ n. S / n) (pow-succ' 2 p) ∙ sym (div-div-eq-div-mul S 2 (2 ^ p))) ∙ bit_is (S / 2) p

pub bit_high : (S p k : ℕ) → S < 2 ^ k → k ≤ p → bit S p ≡ 0
bit_high S zero zero small h = omega arith
bit_high S zero (suc k) small h = omega arith
bit_high S (suc p) zero small h = bit_high (S / 2) p zero (omega arith) (omega arith)
bit_high S (suc p) (suc k) small h = bit_high (S / 2) p k (omega (arith, pow-succ' 2 k)) (omega arith)

pub below_pow : (S : ℕ) → S < 2 ^ S
below_pow zero = omega arith
below_pow (suc S) = omega (arith, pow-succ' 2 S, below_pow S)

-- Adding 2 ^ p where bit p is 0 sets it, and taking it away where bit p is 1 clears it; no other bit changes.
pub bit-add_same : (S p : ℕ) → bit S p ≡ 0 → bit (S + 2 ^ p) p ≡ 1
bit-add_same S zero off = omega arith
bit-add_same S (suc p) off = ap (λ n. bit n p) (omega (arith, pow-succ' 2 p)) ∙ bit-add_same (S / 2) p off

pub bit-add_other : (S p q : ℕ) → bit S p ≡ 0 → (q ≡ p → ⊥) → bit (S + 2 ^ p) q ≡ bit S q
bit-add_other S zero zero off ne = absurd (ne refl)
bit-add_other S zero (suc q) off ne = ap (λ n. bit n q) (omega arith)
bit-add_other S (suc p) zero off ne = omega (arith, pow-succ' 2 p)
bit-add_other S (suc p) (suc q) off ne =
    ap (λ n. bit n q) (omega (arith, pow-succ' 2 p)) ∙ bit-add_other (S / 2) p q off (λ e. ne (ap suc e))

pub bit_le : (S p : ℕ) → bit S p ≡ 1 → 2 ^ p ≤ S
bit_le S zero on = omega arith
bit_le S (suc p) on = omega (arith, pow-succ' 2 p, bit_le (S / 2) p on)

pub bit-sub_same : (S p : ℕ) → bit S p ≡ 1 → bit (S - 2 ^ p) p ≡ 0
bit-sub_same S zero on = omega arith
bit-sub_same S (suc p) on =
    ap (λ n. bit n p) (omega (arith, pow-succ' 2 p, bit_le (S / 2) p on)) ∙ bit-sub_same (S / 2) p on

pub bit-sub_other : (S p q : ℕ) → bit S p ≡ 1 → (q ≡ p → ⊥) → bit (S - 2 ^ p) q ≡ bit S q
bit-sub_other S zero zero on ne = absurd (ne refl)
bit-sub_other S zero (suc q) on ne = ap (λ n. bit n q) (omega arith)
bit-sub_other S (suc p) zero on ne = omega (arith, pow-succ' 2 p, bit_le S (suc p) on)
bit-sub_other S (suc p) (suc q) on ne =
    ap (λ n. bit n q) (omega (arith, pow-succ' 2 p, bit_le (S / 2) p on)) ∙ bit-sub_other (S / 2) p q on (λ e. ne (ap suc e))

-- a number whose bits are all 0 is 0, and one whose bits from k on are all 0 is below 2 ^ k
pub zero_from_bits : (k S : ℕ) → S < 2 ^ k → ((p : ℕ) → bit S p ≡ 0) → S ≡ 0
zero_from_bits zero S small off = omega arith
zero_from_bits (suc k) S small off =
    omega (arith, off 0, zero_from_bits k (S / 2) (omega (arith, pow-succ' 2 k)) (λ p. off (suc p)))

pub below_from_bits : (S k : ℕ) → ((p : ℕ) → k ≤ p → bit S p ≡ 0) → S < 2 ^ k
below_from_bits S zero off = omega (arith, zero_from_bits S S (below_pow S) (λ p. off p (omega arith)))
below_from_bits S (suc k) off =
    omega (arith, pow-succ' 2 k, below_from_bits (S / 2) k (λ p h. off (suc p) (omega arith)))

-- the same of the test `has`
pub on_from_has : (S p : ℕ) → has S p ≡ true → bit S p ≡ 1
on_from_has S p e = sym (bit_is S p) ∙ eqb-true (S / 2 ^ p % 2) 1 e

pub off_from_has : (S p : ℕ) → has S p ≡ false → bit S p ≡ 0
off_from_has S p e = let f : S / 2 ^ p % 2 ≡ 1 → ⊥ = eqb-false (S / 2 ^ p % 2) 1 e in omega (arith, bit_is S p, f)

pub has_on : (S p : ℕ) → bit S p ≡ 1 → has S p ≡ true
has_on S p e = eq-eqb (S / 2 ^ p % 2) 1 (bit_is S p ∙ e)

pub has_off : (S p : ℕ) → bit S p ≡ 0 → has S p ≡ false
has_off S p e = ne_eqb (S / 2 ^ p % 2) 1 (λ f. omega (arith, bit_is S p))

pub has_high : (S p k : ℕ) → S < 2 ^ k → k ≤ p → has S p ≡ false
has_high S p k small h = has_off S p (bit_high S p k small h)

pub has_same : (S T p q : ℕ) → bit S p ≡ bit T q → has S p ≡ has T q
has_same S T p q e = ap (λ n. eqb n 1) (bit_is S p ∙ e ∙ sym (bit_is T q))

-- union and intersection, bit by bit
abbrev small_or : (a b : ℕ) → a < 2 → b < 2 → eqb (bit_or a b) 1 ≡ (eqb a 1 || eqb b 1)
small_or zero zero la lb = refl
small_or zero (suc zero) la lb = refl
small_or (suc zero) zero la lb = refl
small_or (suc zero) (suc zero) la lb = refl
small_or zero (suc (suc b)) la lb = absurd (omega arith)
small_or (suc zero) (suc (suc b)) la lb = absurd (omega arith)
small_or (suc (suc a)) b la lb = absurd (omega arith)

abbrev small_and : (a b : ℕ) → a < 2 → b < 2 → eqb (bit_and a b) 1 ≡ (eqb a 1 && eqb b 1)
small_and zero zero la lb = refl
small_and zero (suc zero) la lb = refl
small_and (suc zero) zero la lb = refl
small_and (suc zero) (suc zero) la lb = refl
small_and zero (suc (suc b)) la lb = absurd (omega arith)
small_and (suc zero) (suc (suc b)) la lb = absurd (omega arith)
small_and (suc (suc a)) b la lb = absurd (omega arith)

pub has-or : (a b p : ℕ) → has (bit_or a b) p ≡ (has a p || has b p)
has-or a b p =
    ap (λ n. eqb (n % 2) 1) (or_shr a b p)
    ∙ (ap (λ n. eqb n 1) (or_mod (a / 2 ^ p) (b / 2 ^ p) 1)
    ∙ small_or (a / 2 ^ p % 2) (b / 2 ^ p % 2) (omega arith) (omega arith))

pub has-and : (a b p : ℕ) → has (bit_and a b) p ≡ (has a p && has b p)
has-and a b p =
    ap (λ n. eqb (n % 2) 1) (and_shr a b p)
    ∙ (ap (λ n. eqb n 1) (and_mod (a / 2 ^ p) (b / 2 ^ p) 1)
    ∙ small_and (a / 2 ^ p % 2) (b / 2 ^ p % 2) (omega arith) (omega arith))

pub or_off : (x y : Bool) → y ≡ false → (x || y) ≡ x
or_off true y e = refl
or_off false y e = e

pub and_on : (x y : Bool) → y ≡ true → (x && y) ≡ x
and_on true y e = e
and_on false y e = refl

-- one member more, and one less
pub has-with : (S p q : ℕ) → has (with S p) q ≡ (has S q || eqb q p)
has-with S p q = ⊎_elim already new (cases_Bool (has S p))
  where
    already : has S p ≡ true → has (with S p) q ≡ (has S q || eqb q p)
    already on =
        ap (λ n. has n q) (cond-true (has S p) S (S + 2 ^ p) on)
        ∙ ⊎_elim
        (λ (e : q ≡ p). let h : has S q ≡ true = ap (has S) e ∙ on in h ∙ sym (or_left (has S q) (eqb q p) h))
        (λ ne. sym (or_off (has S q) (eqb q p) (ne_eqb q p ne)))
        (cases_eq q p)

    new : has S p ≡ false → has (with S p) q ≡ (has S q || eqb q p)
    new off =
        ap (λ n. has n q) (cond-false (has S p) S (S + 2 ^ p) off)
        ∙ ⊎_elim
        (λ (e : q ≡ p).
        ap (has (S + 2 ^ p)) e ∙ has_on (S + 2 ^ p) p (bit-add_same S p (off_from_has S p off))
        ∙ sym (or_right (has S q) (eqb q p) (eq-eqb q p e)))
        (λ ne.
        has_same (S + 2 ^ p) S q q (bit-add_other S p q (off_from_has S p off) ne)
        ∙ sym (or_off (has S q) (eqb q p) (ne_eqb q p ne)))
        (cases_eq q p)

pub has-without : (S p q : ℕ) → has (without S p) q ≡ (has S q && not (eqb q p))
has-without S p q = ⊎_elim there gone (cases_Bool (has S p))
  where
    apart : (q ≡ p → ⊥) → (has S q && not (eqb q p)) ≡ has S q
    apart ne = and_on (has S q) (not (eqb q p)) (not_from_false (eqb q p) (ne_eqb q p ne))

    same : q ≡ p → (has S q && not (eqb q p)) ≡ false
    same e = and_right (has S q) (not (eqb q p)) (not_from_true (eqb q p) (eq-eqb q p e))

    there : has S p ≡ true → has (without S p) q ≡ (has S q && not (eqb q p))
    there on =
        ap (λ n. has n q) (cond-true (has S p) (S - 2 ^ p) S on)
        ∙ ⊎_elim
        (λ (e : q ≡ p).
        ap (has (S - 2 ^ p)) e ∙ has_off (S - 2 ^ p) p (bit-sub_same S p (on_from_has S p on)) ∙ sym (same e))
        (λ ne. has_same (S - 2 ^ p) S q q (bit-sub_other S p q (on_from_has S p on) ne) ∙ sym (apart ne))
        (cases_eq q p)

    gone : has S p ≡ false → has (without S p) q ≡ (has S q && not (eqb q p))
    gone off =
        ap (λ n. has n q) (cond-false (has S p) (S - 2 ^ p) S off)
        ∙ ⊎_elim
        (λ (e : q ≡ p). ap (has S) e ∙ off ∙ sym (same e))
        (λ ne. sym (apart ne))
        (cases_eq q p)

-- a set with room for p has room for it and p
pub with_below : (S p k : ℕ) → S < 2 ^ k → p < k → with S p < 2 ^ k
with_below S p k small h =
    below_from_bits (with S p) k
    (λ q above.
    off_from_has (with S p) q
    (has-with S p q
    ∙ or_from (has S q) (eqb q p) (has_high S q k small above) (ne_eqb q p (λ e. omega arith))))

abbrev bit_counted : (b : ℕ) → b < 2 → b ≡ cond (eqb b 1) 1 0
bit_counted zero h = refl
bit_counted (suc zero) h = refl
bit_counted (suc (suc b)) h = absurd (omega arith)

-- how many members a set has, counted one by one from a on
pub ones_from : (S m a : ℕ) → S / 2 ^ a < 2 ^ m → ones (S / 2 ^ a) ≡ count_by (has S) (range_with_len a m)
ones_from S zero a small = ap ones (let z : S / 2 ^ a ≡ 0 = omega arith in z) ∙ ones-ones 0
ones_from S (suc m) a small =
    let half : S / 2 ^ a / 2 ≡ S / 2 ^ (a + 1) = shr-shr S a 1 in
    let rest = ones_from S m (a + 1) (omega (arith, half, pow-succ' 2 m)) in
    let here = bit_counted (S / 2 ^ a % 2) (omega arith) in
    let all = sum_by-cons (λ j. cond (has S j) 1 0) a (range_with_len (a + 1) m) in
    let step = ones_step (S / 2 ^ a) in
    cc

pub ones_counted : (S m : ℕ) → S < 2 ^ m → ones S ≡ count_by (has S) (range_with_len 0 m)
ones_counted S m small = ap ones (sym (div-one S)) ∙ ones_from S m 0 (omega (arith, div-one S))

-- the test on numbers for 'every member is below the bound'
pub below_decides : (S k : ℕ) → Decides (ltb S (2 ^ k)) (AllBelow S k)
below_decides S k = (
  (λ e p h. has_high S p k (ltb-true S (2 ^ k) e) h),
  (λ off. lt-ltb S (2 ^ k) (below_from_bits S k (λ p h. off_from_has S p (off p h)))),
)

pub empty_decides : (S : ℕ) → Decides (eqb S 0) (Empty S)
empty_decides S = (
  (λ e p. ap (λ n. has n p) (eqb-true S 0 e) ∙ has_high 0 p 0 (omega arith) (omega arith)),
  (λ off. eq-eqb S 0 (zero_from_bits S S (below_pow S) (λ p. off_from_has S p (off p)))),
)

-- a number that is not 0 has a bit
pub member_from : (k S : ℕ) → S < 2 ^ k → 0 < S → (p : ℕ) × (bit S p ≡ 1)
member_from zero S small some = absurd (omega arith)
member_from (suc k) S small some =
    ⊎_elim
    (λ (odd : S % 2 ≡ 1). (0, odd))
    (λ even. let p = member_from k (S / 2) (omega (arith, pow-succ' 2 k)) (omega arith) in (suc p.0, p.1))
    (cases_eq (S % 2) 1)

-- how many members two sets share, counted one by one
pub common_counted : (a b m : ℕ) → a < 2 ^ m → ones (bit_and a b) ≡ count_by (λ j. has a j && has b j) (range_with_len 0 m)
common_counted a b m small = ones_counted (bit_and a b) m (omega (arith, and_le_l a b))
    ∙ ap (λ f. count_by f (range_with_len 0 m)) (fun_ext (has-and a b))
