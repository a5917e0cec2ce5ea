-- Lists without duplicates, by their members.
use Rattle.std.proofs.Common.{◌≡◌, ℕ, zero, suc, ◌<◌, Bool, true, ◌⊎◌, List, [], ◌∷◌, ◌++◌, length, get_or, filter, sym, refl, ap, ◌∙◌, subst, inl, inr, ⊎_elim, arith}
use Rattle.std.proofs.lemmas.Bool.{cond-false, cond-true, cases_Bool}
use Rattle.std.specs.List.{ContainsAt as Has}

-- x is in the list
abbrev pub In : {X : Type 0} → X → List X → Type 0
In x [] = ⊥
In x (y ∷ ys) = (x ≡ y) ⊎ In x ys

-- no element comes twice
abbrev pub Distinct : {X : Type 0} → List X → Type 0
Distinct [] = Unit {0}
Distinct (x ∷ xs) = (In x xs → ⊥) × Distinct xs

module _ {X : Type 0} where
  pub in_from_has : (xs : List X) (x : X) → Has xs x → In x xs
  in_from_has [] x (k, l, at) = absurd (let z : ⊥ = omega arith in z)
  in_from_has (y ∷ ys) x (zero, l, at) = inl (sym (at y))
  in_from_has (y ∷ ys) x (suc k, l, at) = inr (in_from_has ys x (k, omega arith, at))

  pub has_from_in : (xs : List X) (x : X) → In x xs → Has xs x
  has_from_in [] x r = absurd r
  has_from_in (y ∷ ys) x (inl e) = (0, omega arith, λ _. sym e)
  has_from_in (y ∷ ys) x (inr r) = let h = has_from_in ys x r in (suc h.0, (let l = h.1 in omega arith), h.2)

  pub distinct_from_apart : (xs : List X) (d : X) → ((i j : ℕ) → i < j → j < length xs → get_or xs i d ≡ get_or xs j d → ⊥) → Distinct xs
  distinct_from_apart [] d h = tt
  distinct_from_apart (x ∷ xs) d h = (
    (λ r. let a = has_from_in xs x r in h 0 (suc a.0) (omega arith) (let l = a.1 in omega arith) (sym (a.2 d))),
    distinct_from_apart xs d (λ i j l k e. h (suc i) (suc j) (omega arith) (omega arith) e),
  )

  at_in : (xs : List X) (j : ℕ) (d : X) → j < length xs → In (get_or xs j d) xs
  at_in [] j d l = absurd (let z : ⊥ = omega arith in z)
  at_in (x ∷ xs) zero d l = inl refl
  at_in (x ∷ xs) (suc j) d l = inr (at_in xs j d (omega arith))

  pub apart_from_distinct : (xs : List X) (d : X) → Distinct xs → (i j : ℕ) → i < j → j < length xs → get_or xs i d ≡ get_or xs j d → ⊥
  apart_from_distinct [] d h i j l k e = let z : ⊥ = omega arith in z
  apart_from_distinct (x ∷ xs) d h i zero l k e = let z : ⊥ = omega arith in z
  apart_from_distinct (x ∷ xs) d h zero (suc j) l k e = h.0 (subst (λ y. In y xs) (sym e) (at_in xs j d (omega arith)))
  apart_from_distinct (x ∷ xs) d h (suc i) (suc j) l k e = apart_from_distinct xs d h.1 i j (omega arith) (omega arith) e

  -- an element with what is before and after it
  pub split : (x : X) (xs : List X) → In x xs → (before : List X) × (after : List X) × (before ++ x ∷ after ≡ xs)
  split x [] r = absurd r
  split x (y ∷ ys) (inl e) = ([], ys, ap (λ z. z ∷ ys) e)
  split x (y ∷ ys) (inr r) = let s = split x ys r in (y ∷ s.0, s.1, ap (λ zs. y ∷ zs) s.2)

  pub in_out : (t x : X) (before after : List X) → In t (before ++ x ∷ after) → (t ≡ x) ⊎ In t (before ++ after)
  in_out t x [] after r = r
  in_out t x (b ∷ before) after (inl e) = inr (inl e)
  in_out t x (b ∷ before) after (inr r) = ⊎_elim inl (λ q. inr (inr q)) (in_out t x before after r)

  pub in_back : (t x : X) (before after : List X) → In t (before ++ after) → In t (before ++ x ∷ after)
  in_back t x [] after r = inr r
  in_back t x (b ∷ before) after (inl e) = inl e
  in_back t x (b ∷ before) after (inr r) = inr (in_back t x before after r)

  in_at : (x : X) (before after : List X) → In x (before ++ x ∷ after)
  in_at x [] after = inl refl
  in_at x (b ∷ before) after = inr (in_at x before after)

  -- without one of its elements, the list has it no more
  pub distinct_out : (x : X) (before after : List X) → Distinct (before ++ x ∷ after)
      → (In x (before ++ after) → ⊥) × Distinct (before ++ after)
  distinct_out x [] after h = h
  distinct_out x (b ∷ before) after h =
      let r = distinct_out x before after h.1 in (
        ⊎_elim (λ e. h.0 (subst (λ y. In y (before ++ x ∷ after)) e (in_at x before after))) r.0,
        ((λ q. h.0 (in_back b x before after q)), r.1),
      )

  pub in_append : (x : X) (xs ys : List X) → In x (xs ++ ys) → In x xs ⊎ In x ys
  in_append x [] ys r = inr r
  in_append x (y ∷ xs) ys (inl e) = inl (inl e)
  in_append x (y ∷ xs) ys (inr r) = ⊎_elim (λ q. inl (inr q)) inr (in_append x xs ys r)

  pub in_left : (x : X) (xs ys : List X) → In x xs → In x (xs ++ ys)
  in_left x [] ys r = absurd r
  in_left x (y ∷ xs) ys (inl e) = inl e
  in_left x (y ∷ xs) ys (inr r) = inr (in_left x xs ys r)

  pub in_right : (x : X) (xs ys : List X) → In x ys → In x (xs ++ ys)
  in_right x [] ys r = r
  in_right x (y ∷ xs) ys r = inr (in_right x xs ys r)

  pub distinct_append : (xs ys : List X) → Distinct xs → Distinct ys → ((x : X) → In x xs → In x ys → ⊥) → Distinct (xs ++ ys)
  distinct_append [] ys h k other = k
  distinct_append (x ∷ xs) ys h k other = (
    (λ r. ⊎_elim h.0 (other x (inl refl)) (in_append x xs ys r)),
    distinct_append xs ys h.1 k (λ y a b. other y (inr a) b),
  )

  -- what a test keeps
  module _ (p : X → Bool) where
    pub in_kept : (x : X) (xs : List X) → In x (filter p xs) → In x xs × (p x ≡ true)
    in_kept x [] r = absurd r
    in_kept x (y ∷ ys) r =
        ⊎_elim
        (λ on.
        ⊎_elim (λ s. (inl s, ap p s ∙ on)) (λ q. let k = in_kept x ys q in (inr k.0, k.1))
        (subst (In x) (cond-true (p y) (y ∷ filter p ys) (filter p ys) on) r))
        (λ off. let k = in_kept x ys (subst (In x) (cond-false (p y) (y ∷ filter p ys) (filter p ys) off) r) in (inr k.0, k.1))
        (cases_Bool (p y))

    pub kept_in : (x : X) (xs : List X) → In x xs → p x ≡ true → In x (filter p xs)
    kept_in x [] r e = absurd r
    kept_in x (y ∷ ys) (inl s) e = subst (In x) (sym (cond-true (p y) (y ∷ filter p ys) (filter p ys) (sym (ap p s) ∙ e))) (inl s)
    kept_in x (y ∷ ys) (inr r) e =
        ⊎_elim
        (λ on. subst (In x) (sym (cond-true (p y) (y ∷ filter p ys) (filter p ys) on)) (inr (kept_in x ys r e)))
        (λ off. subst (In x) (sym (cond-false (p y) (y ∷ filter p ys) (filter p ys) off)) (kept_in x ys r e))
        (cases_Bool (p y))

    pub kept_distinct : (xs : List X) → Distinct xs → Distinct (filter p xs)
    kept_distinct [] h = tt
    kept_distinct (x ∷ xs) h =
        ⊎_elim
        (λ on. subst Distinct (sym (cond-true (p x) (x ∷ filter p xs) (filter p xs) on)) ((λ r. h.0 (in_kept x xs r).0), kept_distinct xs h.1))
        (λ off. subst Distinct (sym (cond-false (p x) (x ∷ filter p xs) (filter p xs) off)) (kept_distinct xs h.1))
        (cases_Bool (p x))
