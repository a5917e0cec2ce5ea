-- The test for being a sequence decides it.
use Rattle.std.proofs.Common.{◌≡◌, ℕ, ◌<◌, Bool, eqb, ltb, List, get_or, Decides, refl, subst, arith}
use Rattle.std.proofs.lemmas.List.FromFn.{get_or-range_with_len, length-range_with_len}
use Rattle.std.proofs.ByRecursion.{All-get_or, Decides-by_and}
use Rattle.std.proofs.lemmas.Bool.Decides.{Decides-and, Decides-eqb, Decides-like, Decides-ltb}
use Rattle.std.specs.List.{range_with_len, list_all, AllByRecursion as Each}
use Rattle.sequences.specs.Sequences.{Sequence, is_sequence, times}
use Rattle.sequences.proofs.Sums.{each_below}

-- a test of each number below n
pub below_decides : (test : ℕ → Bool) (P : ℕ → Type 0) → ((q : ℕ) → Decides (test q) (P q)) → (n : ℕ)
    → Decides (list_all test (range_with_len 0 n)) ((q : ℕ) → q < n → P q)
below_decides test P each n =
    Decides-like (list_all test (range_with_len 0 n)) one (each_below n)
    (Decides-by_and test P (list_all test) each refl (λ _ _. refl) (range_with_len 0 n))
  where
    one : Each P (range_with_len 0 n) → (q : ℕ) → q < n → P q
    one h q l =
        subst P (let e : get_or (range_with_len 0 n) q 0 ≡ q = omega (arith, get_or-range_with_len 0 n q 0 l) in e)
        (All-get_or P (range_with_len 0 n) q 0 (omega (arith, length-range_with_len 0 n)) h)

pub is_sequence_lem : (n : ℕ) (s : List ℕ) → Decides (is_sequence n s) (Sequence n s)
is_sequence_lem n s =
    Decides-like (is_sequence n s)
    (λ h. record { sheets = h.0; once = h.1 }) (λ is. (is.sheets, is.once))
    (Decides-and (list_all (λ p. ltb p n) s) (list_all (λ p. eqb (times s p) 1) (range_with_len 0 n))
    (Decides-by_and (λ p. ltb p n) (λ p. p < n) (list_all (λ p. ltb p n)) (λ p. Decides-ltb p n) refl (λ _ _. refl) s)
    (below_decides (λ p. eqb (times s p) 1) (λ p. times s p ≡ 1) (λ p. Decides-eqb (times s p) 1) n))
