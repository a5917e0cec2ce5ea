-- A set to which the numbers that pass a test are added, one after the other.
use Rattle.std.proofs.Common.{◌≡◌, ℕ, ◌+◌, ◌<◌, Bool, true, false, ◌&&◌, ◌||◌, eqb, ltb, sym, ap, ◌∙◌, ⊎_elim, arith}
use Rattle.sets.specs.Bits.{has}
use Rattle.sets.specs.Orders.{room}
use Rattle.sets.proofs.Bits.{or_off}
use Rattle.std.proofs.lemmas.Bool.{and_from, and_left, and_right, cases_eq, eq-eqb, le-ltb, lt-ltb, ne_eqb, or_right}
use Rattle.std.proofs.lemmas.Bool.Decides.{nat_tests}

module _ (test : ℕ → Bool) where
  -- of the numbers below k the set has those that pass
  abbrev pub Upto : ℕ → ℕ → Type 0
  Upto set k = (j : ℕ) → has set j ≡ (ltb j k && test j)

  module _ (k : ℕ) where
    apart : (j : ℕ) → (j ≡ k → ⊥) → (ltb j k && test j) ≡ (ltb j (k + 1) && test j)
    apart j ne = let same : ltb j k ≡ ltb j (k + 1) = grind (arith, nat_tests) in ap (λ b. b && test j) same

    pub upto_taken : (old new : ℕ) → Upto old k → test k ≡ true → k < room
        → ((j : ℕ) → has new j ≡ (has old j || (eqb j k && ltb k room))) → Upto new (k + 1)
    upto_taken old new before on fits added j =
        ⊎_elim
        (λ (e : j ≡ k).
        added j
        ∙ (or_right (has old j) (eqb j k && ltb k room) (and_from (eqb j k) (ltb k room) (eq-eqb j k e) (lt-ltb k room fits))
        ∙ sym (and_from (ltb j (k + 1)) (test j) (lt-ltb j (k + 1) (omega arith)) (ap test e ∙ on))))
        (λ ne.
        added j
        ∙ (or_off (has old j) (eqb j k && ltb k room) (and_left (eqb j k) (ltb k room) (ne_eqb j k ne))
        ∙ (before j ∙ apart j ne)))
        (cases_eq j k)

    pub upto_passed : (set : ℕ) → Upto set k → test k ≡ false → Upto set (k + 1)
    upto_passed set before off j =
        ⊎_elim
        (λ (e : j ≡ k).
        before j
        ∙ (and_left (ltb j k) (test j) (le-ltb j k (omega arith))
        ∙ sym (and_right (ltb j (k + 1)) (test j) (ap test e ∙ off))))
        (λ ne. before j ∙ apart j ne)
        (cases_eq j k)
