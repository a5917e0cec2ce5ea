-- Each test of the checks decides its condition.
use Rattle.std.proofs.Common.{◌≡◌, ℕ, zero, suc, ◌+◌, ◌<◌, ◌≤◌, Bool, true, false, cond, not, eqb, leb, List, [], ◌∷◌, length, Some, None, Decides, sym, refl, ap, ◌∙◌, subst, ⊎_elim, arith}
use Rattle.std.proofs.lemmas.Slice.Eq.{bytes_eq-Decides}
use Rattle.std.proofs.lemmas.Bool.{and_from, and_parts, both_ways, cases_Bool, cases_eq, cond-true, cond-false, eqb-true, eqb-false, leb-true, le-leb, not-true, not_from_false, or_cases, or_left, or_right}
use Rattle.std.specs.List.{list_all, list_any, range_with_len, AllByRecursion as Each}
use Rattle.std.specs.Str.{bytes_eq}
use Rattle.sets.specs.Bits.{has}
use Rattle.sets.proofs.Bits.{below_pow, empty_decides, has_on, member_from}
use Rattle.job.specs.Content.{due}
use Rattle.jobfile.specs.Edition.{header_bytes}
use Rattle.jobfile.specs.Fields.{due_step, label}
use Rattle.jobfile.specs.Tests.{between, inside, printable, taken}
use Rattle.job.specs.WellFormed.{Busy, Due, Inside}

pub between_decides : (low high n : ℕ) → Decides (between low high n) ((low ≤ n) × (n ≤ high))
between_decides low high n = (
  (λ e. let p = and_parts (leb low n) (leb n high) e in (leb-true low n p.0, leb-true n high p.1)),
  (λ h. and_from (leb low n) (leb n high) (le-leb low n h.0) (le-leb n high h.1)),
)

pub inside_decides : (file : List ℕ) (at size : ℕ) → Decides (inside file at size) (Inside file at size)
inside_decides file at size = (
  (λ e.
      let p = and_parts (leb header_bytes at) (leb (at + size) (length file)) e in
      record { past_header = leb-true header_bytes at p.0; before_end = leb-true (at + size) (length file) p.1 }),
  (λ h.
      and_from (leb header_bytes at) (leb (at + size) (length file)) (le-leb header_bytes at h.past_header)
      (le-leb (at + size) (length file) h.before_end)),
)

-- a row that is not 0 has an order
pub busy_decides : (row : ℕ) → Decides (not (eqb row 0)) (Busy row)
busy_decides row = (
  (λ e.
      let some : 0 < row = omega (arith, eqb-false row 0 (not-true (eqb row 0) e)) in
      let p = member_from row row (below_pow row) some in
      record { order = p.0; serves = has_on row p.0 p.1 }),
  (λ b.
      ⊎_elim
      (λ e. absurd (both_ways (has row b.order) ((empty_decides row).0 e b.order) b.serves))
      (not_from_false (eqb row 0))
      (cases_Bool (eqb row 0))),
)

-- some number below n passes the test
pub any_decides : (test : ℕ → Bool) (n : ℕ) → Decides (list_any test (range_with_len 0 n)) ((k : ℕ) × (k < n) × (test k ≡ true))
any_decides test n = (
  (λ e. let w = found 0 n e in (w.0, omega (arith, w.2), w.3)),
  (λ w. passes 0 n w.0 (omega arith) (omega (arith, w.1)) w.2),
)
  where
    found : (a n : ℕ) → list_any test (range_with_len a n) ≡ true → (k : ℕ) × (a ≤ k) × (k < a + n) × (test k ≡ true)
    found a zero e = absurd (both_ways false refl e)
    found a (suc n) e =
        ⊎_elim
        (λ here. (a, omega arith, omega arith, here))
        (λ later. let w = found (a + 1) n later in (w.0, omega (arith, w.1), omega (arith, w.2), w.3))
        (or_cases (test a) (list_any test (range_with_len (a + 1) n)) e)

    passes : (a n k : ℕ) → a ≤ k → k < a + n → test k ≡ true → list_any test (range_with_len a n) ≡ true
    passes a zero k from below here = absurd (omega arith)
    passes a (suc n) k from below here =
        ⊎_elim
        (λ (e : k ≡ a). or_left (test a) (list_any test (range_with_len (a + 1) n)) (sym (ap test e) ∙ here))
        (λ ne. or_right (test a) (list_any test (range_with_len (a + 1) n)) (passes (a + 1) n k (omega arith) (omega arith) here))
        (cases_eq k a)

pub due_decides : (file : List ℕ) (order steps : ℕ) → Decides (leb (due_step file order) steps) (Due steps (due file order))
due_decides file order steps = decides (due_step file order)
  where
    decides : (d : ℕ) → Decides (leb d steps) (Due steps (cond (eqb d 0) None (Some d)))
    decides d =
        ⊎_elim
        (λ none.
        let zero_step : d ≡ 0 = eqb-true d 0 none in
        ((λ e. subst (Due steps) (sym (cond-true (eqb d 0) None (Some d) none)) tt), (λ h. le-leb d steps (omega arith))))
        (λ some.
        let is = cond-false (eqb d 0) None (Some d) some in (
          (λ e. subst (Due steps) (sym is) (omega (arith, eqb-false d 0 some), leb-true d steps e)),
          (λ h. le-leb d steps (subst (Due steps) is h).1),
        ))
        (cases_Bool (eqb d 0))

pub printed_decides : (bytes : List ℕ) → Decides (list_all printable bytes) (Each (λ byte. (33 ≤ byte) × (byte ≤ 126)) bytes)
printed_decides [] = ((λ e. tt), (λ h. refl))
printed_decides (byte ∷ bytes) =
    let rest = printed_decides bytes in
    let here = between_decides 33 126 byte in (
      (λ e. let p = and_parts (printable byte) (list_all printable bytes) e in (here.0 p.0, rest.0 p.1)),
      (λ h. and_from (printable byte) (list_all printable bytes) (here.1 h.0) (rest.1 h.1)),
    )

-- no earlier order has the same label
pub distinct_decides : (file : List ℕ) (j : ℕ)
    → Decides (not (taken file j)) ((i : ℕ) → i < j → label file i ≡ label file j → ⊥)
distinct_decides file j = (
  (λ e i h same.
      both_ways (taken file j) (not-true (taken file j) e)
      ((any_decides test j).1 (i, h, (bytes_eq-Decides (label file i) (label file j)).1 same))),
  (λ apart.
      ⊎_elim
      (λ e.
      let w = (any_decides test j).0 e in
      absurd (apart w.0 w.1 ((bytes_eq-Decides (label file w.0) (label file j)).0 w.2)))
      (λ e. not_from_false (taken file j) e)
      (cases_Bool (taken file j))),
)
  where
    test : ℕ → Bool
    test k = bytes_eq (label file k) (label file j)
