-- Peak, spread and lateness by the figures of the steps.
use Rattle.std.proofs.Common.{◌≡◌, ℕ, suc, ◌+◌, ◌-◌, ◌*◌, ◌≤◌, min, max, Bool, cond, ◌&&◌, leb, List, [], ◌∷◌, map, length, get_or, Some, None, sum_by, sum, count_by, Option, sym, ap, ◌∙◌, subst, arith}
use mathlib.Core.Path.{fun_ext}
use lib.Dec.{leb-zero}
use Rattle.std.proofs.lemmas.List.FromFn.{length-range_with_len}
use Rattle.std.proofs.lemmas.List.Sums.{count_by-le-length, sum-map}
use Rattle.std.proofs.ByRecursion.{sum_by_le}
use Rattle.std.proofs.lemmas.Bool.Decides.{nat_tests}
use Rattle.std.specs.List.{range_with_len, list_all}
use Rattle.sequences.specs.Sequences.{Sequence}
use Rattle.sequences.specs.Stacks.{serving, first, last, is_open, span, late, largest, open_orders, spread, lateness, steps}
use Rattle.sequences.specs.StepRules.{due_before}
use Rattle.sequences.proofs.Earliest.{between, first_past, last_within}
use Rattle.sequences.proofs.Figures.{overdue}
use Rattle.sequences.proofs.Sums.{always, interval, sum_like, sum_swap, sum_zero}

-- an order is open in as many steps as it spans
open_steps : (a : ℕ → Bool) (s : List ℕ) → count_by (is_open a s) (steps s) ≡ span a s
open_steps a s =
    ap (λ test. count_by test (steps s)) (fun_ext (between a s))
    ∙ (interval (first a s) (last a s) (length s) 1 ∙ from (first a s) (last a s) (length s) (first_past a s) (last_within a s))
  where
    from : (f l k : ℕ) → 1 ≤ f → l ≤ k → min (l + 1) (1 + k) - max f 1 ≡ cond (leb f l) (l + 1 - f) 0
    from f l k h e = grind (arith, nat_tests)

-- an order is overdue in as many steps as it is late
overdue_steps : (due : Option ℕ) (a : ℕ → Bool) (s : List ℕ)
    → count_by (λ t. due_before t due && leb t (last a s)) (steps s) ≡ late due (last a s)
overdue_steps None a s = sum_zero (steps s)
overdue_steps (Some due) a s =
    interval (suc due) (last a s) (length s) 1 ∙ (let l = last_within a s in omega arith)

-- the orders open in each step add up to the spread
pub spread_summed : (serves : ℕ → ℕ → Bool) (m : ℕ) (s : List ℕ) → sum (map (open_orders serves m s) (steps s)) ≡ spread serves m s
spread_summed serves m s =
    sum-map (open_orders serves m s) (steps s)
    ∙ (sum_swap (λ t j. cond (is_open (serves j) s t) 1 0) (steps s) (range_with_len 0 m)
    ∙ sum_like (λ j. count_by (is_open (serves j) s) (steps s)) (λ j. span (serves j) s) (range_with_len 0 m) (always (λ j. open_steps (serves j) s) (range_with_len 0 m)))

-- the orders overdue in each step add up to the lateness
pub lateness_summed : (rows : List ℕ) (s : List ℕ) (is : Sequence (length rows) s) (dues : List (Option ℕ))
    → sum (map (overdue rows s is dues) (steps s)) ≡ lateness (serving rows) (length dues) dues s
lateness_summed rows s is dues =
    sum-map (overdue rows s is dues) (steps s)
    ∙ (sum_swap (λ t j. cond (due_before t (get_or dues j None) && leb t (last (serving rows j) s)) 1 0) (steps s) (range_with_len 0 (length dues))
    ∙ sum_like (λ j. count_by (λ t. due_before t (get_or dues j None) && leb t (last (serving rows j) s)) (steps s))
    (λ j. late (get_or dues j None) (last (serving rows j) s)) (range_with_len 0 (length dues))
    (always (λ j. overdue_steps (get_or dues j None) (serving rows j) s) (range_with_len 0 (length dues))))

-- counts below m add up to at most m for each step
counts_le : (test : ℕ → ℕ → Bool) (m : ℕ) (s : List ℕ)
    → sum (map (λ t. count_by (λ j. test t j) (range_with_len 0 m)) (steps s)) ≤ length s * m
counts_le test m s =
    let counts : ℕ → ℕ = λ t. count_by (λ j. test t j) (range_with_len 0 m) in
    let each : (t : ℕ) → counts t ≤ m = λ t. (let l = count_by-le-length (test t) (range_with_len 0 m) in let k = length-range_with_len 0 m in omega arith) in
    let total = sum_by_le counts m (steps s) (always each (steps s)) in
    subst (λ x. x ≤ length s * m) (sym (sum-map counts (steps s))) (subst (λ k. sum_by counts (steps s) ≤ k * m) (length-range_with_len 1 (length s)) total)

pub spread_le : (serves : ℕ → ℕ → Bool) (m : ℕ) (s : List ℕ) → spread serves m s ≤ length s * m
spread_le serves m s = subst (λ x. x ≤ length s * m) (spread_summed serves m s) (counts_le (λ t j. is_open (serves j) s t) m s)

pub lateness_le : (rows : List ℕ) (s : List ℕ) → Sequence (length rows) s → (dues : List (Option ℕ))
    → lateness (serving rows) (length dues) dues s ≤ length s * length dues
lateness_le rows s is dues =
    subst (λ x. x ≤ length s * length dues) (lateness_summed rows s is dues)
    (counts_le (λ t j. due_before t (get_or dues j None) && leb t (last (serving rows j) s)) (length dues) s)

-- all are at most k where the largest is
pub all_at_most : (k : ℕ) (xs : List ℕ) → list_all (λ x. leb x k) xs ≡ leb (largest xs) k
all_at_most k [] = sym (leb-zero k)
all_at_most k (x ∷ xs) = ap (λ b. leb x k && b) (all_at_most k xs) ∙ from x (largest xs) k
  where
    from : (x y k : ℕ) → (leb x k && leb y k) ≡ leb (max x y) k
    from x y k = grind (arith, nat_tests)
