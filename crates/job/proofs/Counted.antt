-- What holds of every element of a list made from a function of the index.
use Rattle.std.proofs.Common.{◌≡◌, ℕ, zero, suc, ◌+◌, ◌<◌, map, subst, arith}
use Rattle.std.proofs.lemmas.List.FromFn.{get_or-map-range_with_len, length-map-range_with_len}
use Rattle.std.proofs.ByRecursion.{All-get_or}
use Rattle.std.specs.List.{range_with_len, AllByRecursion as Each}

module _ {X : Type 0} (P : X → Type 0) (f : ℕ → X) where
  from_at : (a n : ℕ) → ((k : ℕ) → k < n → P (f (a + k))) → Each P (map f (range_with_len a n))
  from_at a zero h = tt
  from_at a (suc n) h =
      let here : a + 0 ≡ a = omega arith in (
        subst (λ i. P (f i)) here (h 0 (omega arith)),
        from_at (a + 1) n (λ k l. let e : a + suc k ≡ a + 1 + k = omega arith in subst (λ i. P (f i)) e (h (suc k) (omega arith))),
      )

  pub all_counted : (n : ℕ) → ((k : ℕ) → k < n → P (f k)) → Each P (map f (range_with_len 0 n))
  all_counted n h = from_at 0 n (λ k l. let e : k ≡ 0 + k = omega arith in subst (λ i. P (f i)) e (h k l))

  pub each_counted : (n : ℕ) → Each P (map f (range_with_len 0 n)) → (k : ℕ) → k < n → P (f k)
  each_counted n h k l =
      let e = get_or-map-range_with_len f 0 n k k (f k) l (omega arith) in
      subst P e (All-get_or P (map f (range_with_len 0 n)) k (f k) (omega (arith, length-map-range_with_len f 0 n)) h)
