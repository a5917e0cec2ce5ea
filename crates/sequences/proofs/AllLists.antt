-- All lists of so many sheets: each list of sheets of that length once.
use Rattle.std.proofs.Common.{◌≡◌, ℕ, zero, suc, ◌+◌, ◌<◌, ◌≤◌, List, [], ◌∷◌, map, length, sym, refl, ap, ◌∙◌, subst, inl, inr, ⊎_elim, arith}
use Rattle.std.proofs.lemmas.Bool.{cases_eq}
use Rattle.std.specs.List.{range_with_len as counting, flat_map, AllByRecursion as Each}
use Rattle.sequences.specs.Joins.{lists_of}
use Rattle.sequences.proofs.Listings.{Distinct, In, distinct_append, in_append, in_left, in_right}

in_counting : (q a n : ℕ) → a ≤ q → q < a + n → In q (counting a n)
in_counting q a zero low high = absurd (let z : ⊥ = omega arith in z)
in_counting q a (suc n) low high =
    ⊎_elim (λ e. inl e) (λ other. inr (in_counting q (a + 1) n (omega arith) (omega arith))) (cases_eq q a)

counting_in : (q a n : ℕ) → In q (counting a n) → (a ≤ q) × (q < a + n)
counting_in q a zero r = absurd r
counting_in q a (suc n) (inl e) = (omega arith, omega arith)
counting_in q a (suc n) (inr r) = let h = counting_in q (a + 1) n r in ((let l = h.0 in omega arith), (let l = h.1 in omega arith))

counting_distinct : (a n : ℕ) → Distinct (counting a n)
counting_distinct a zero = tt
counting_distinct a (suc n) = (
  (λ r. let l = (counting_in a (a + 1) n r).0 in let z : ⊥ = omega arith in z),
  counting_distinct (a + 1) n,
)

-- lists that begin with one sheet
module _ (p : ℕ) where
  in_begun : (s : List ℕ) (L : List (List ℕ)) → In s L → In (p ∷ s) (map (λ s. p ∷ s) L)
  in_begun s [] r = absurd r
  in_begun s (x ∷ L) (inl e) = inl (ap (λ t. p ∷ t) e)
  in_begun s (x ∷ L) (inr r) = inr (in_begun s L r)

  begun_in : (t : List ℕ) (L : List (List ℕ)) → In t (map (λ s. p ∷ s) L) → (s : List ℕ) × (t ≡ p ∷ s) × In s L
  begun_in t [] r = absurd r
  begun_in t (x ∷ L) (inl e) = (x, e, inl refl)
  begun_in t (x ∷ L) (inr r) = let h = begun_in t L r in (h.0, h.1, inr h.2)

heads : (p q : ℕ) (s t : List ℕ) → ◌≡◌ {A = List ℕ} (p ∷ s) (q ∷ t) → p ≡ q
heads p q s t e = cc

tails : (p q : ℕ) (s t : List ℕ) → ◌≡◌ {A = List ℕ} (p ∷ s) (q ∷ t) → s ≡ t
tails p q s t e = cc

begun_distinct : (p : ℕ) (L : List (List ℕ)) → Distinct L → Distinct (map (λ s. p ∷ s) L)
begun_distinct p [] h = tt
begun_distinct p (x ∷ L) h = (
  (λ r. let b = begun_in p (p ∷ x) L r in h.0 (subst (λ y. In y L) (sym (tails p p x b.0 b.1)) b.2)),
  begun_distinct p L h.1,
)

module _ (L : List (List ℕ)) where
  abbrev each : ℕ → List (List ℕ)
  each p = map (λ s. p ∷ s) L

  in_joined : (p : ℕ) (s : List ℕ) (ps : List ℕ) → In p ps → In s L → In (p ∷ s) (flat_map each ps)
  in_joined p s [] r q = absurd r
  in_joined p s (x ∷ ps) (inl e) q = in_left (p ∷ s) (each x) (flat_map each ps) (subst (λ y. In (p ∷ s) (each y)) e (in_begun p s L q))
  in_joined p s (x ∷ ps) (inr r) q = in_right (p ∷ s) (each x) (flat_map each ps) (in_joined p s ps r q)

  joined_in : (t : List ℕ) (ps : List ℕ) → In t (flat_map each ps) → (p : ℕ) × (s : List ℕ) × (t ≡ p ∷ s) × In p ps × In s L
  joined_in t [] r = absurd r
  joined_in t (x ∷ ps) r =
      ⊎_elim
      (λ q. let b = begun_in x t L q in (x, b.0, b.1, inl refl, b.2))
      (λ q. let b = joined_in t ps q in (b.0, b.1, b.2, inr b.3, b.4))
      (in_append t (each x) (flat_map each ps) r)

  joined_distinct : (ps : List ℕ) → Distinct ps → Distinct L → Distinct (flat_map each ps)
  joined_distinct [] h k = tt
  joined_distinct (x ∷ ps) h k =
      distinct_append (each x) (flat_map each ps) (begun_distinct x L k) (joined_distinct ps h.1 k) (λ t a b.
      let one = begun_in x t L a in
      let other = joined_in t ps b in
      h.0 (subst (λ y. In y ps) (sym (heads x other.0 one.0 other.1 (sym one.1 ∙ other.2))) other.3))

pub in_lists : (n : ℕ) (s : List ℕ) → Each (λ p. p < n) s → In s (lists_of n (length s))
in_lists n [] h = inl refl
in_lists n (p ∷ s) h =
    in_joined (lists_of n (length s)) p s (counting 0 n) (in_counting p 0 n (omega arith) (let l = h.0 in omega arith)) (in_lists n s h.1)

pub lists_distinct : (n k : ℕ) → Distinct (lists_of n k)
lists_distinct n zero = ((λ r. r), tt)
lists_distinct n (suc k) = joined_distinct (lists_of n k) (counting 0 n) (counting_distinct 0 n) (lists_distinct n k)
