-- How many sheets are done where one is still to come.
use Rattle.std.proofs.Common.{◌≡◌, ℕ, zero, suc, ◌+◌, ◌/◌, ◌^◌, ◌<◌, true, false, not, ◌&&◌, ltb, ap, ◌∙◌, arith}
use native.Mathlib.Nat.{pow-succ'}
use lib.Count.{ones, ones_step, ones-le}
use Rattle.sets.specs.Bits.{has, with}
use Rattle.sets.proofs.Bits.{bit, off_from_has, with_below}
use Rattle.sequences.specs.StepRules.{is_next}
use Rattle.std.proofs.lemmas.Bool.{and_parts, cond-false, ltb-true, not-true}

ones-add : (S p : ℕ) → bit S p ≡ 0 → ones (S + 2 ^ p) ≡ ones S + 1
ones-add S zero off =
    let same : (S + 2 ^ 0) / 2 ≡ S / 2 = omega arith in
    omega (arith, ones_step S, ones_step (S + 2 ^ 0), ap ones same)
ones-add S (suc p) off =
    let half : (S + 2 ^ suc p) / 2 ≡ S / 2 + 2 ^ p = omega (arith, pow-succ' 2 p) in
    omega (arith, pow-succ' 2 p, ones_step S, ones_step (S + 2 ^ suc p), ap ones half, ones-add (S / 2) p off)

module _ (n S p : ℕ) (next : is_next n S p ≡ true) where
  parts : (ltb p n ≡ true) × ((not (has S p) && ltb S (2 ^ n)) ≡ true)
  parts = and_parts (ltb p n) (not (has S p) && ltb S (2 ^ n)) next

  others : (not (has S p) ≡ true) × (ltb S (2 ^ n) ≡ true)
  others = and_parts (not (has S p)) (ltb S (2 ^ n)) parts.1

  pub next_listed : p < n
  next_listed = ltb-true p n parts.0

  pub next_new : has S p ≡ false
  next_new = not-true (has S p) others.0

  pub done_below : S < 2 ^ n
  done_below = ltb-true S (2 ^ n) others.1

  -- with the next one there are at most n
  pub few_done : ones S < n
  few_done =
      let grown : ones (with S p) ≡ ones S + 1 =
      ap ones (cond-false (has S p) S (S + 2 ^ p) next_new) ∙ ones-add S p (off_from_has S p next_new) in
      omega (arith, grown, ones-le n (with S p) (with_below S p n done_below next_listed))
