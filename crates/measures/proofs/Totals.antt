-- The largest of some numbers, as a fold finds it, and how many orders there are at most.
use Rattle.std.proofs.Common.{◌≡◌, ℕ, ◌^◌, ◌<◌, max, List, [], ◌∷◌, map, fold, ◌∙◌, arith}
use Rattle.std.proofs.iter.Yields.{nat_range_steps}
use Rattle.std.proofs.lemmas.Iterator.{YieldsList-from_range}
use Rattle.std.proofs.lemmas.Iterator.Adapters.{YieldsAtMost, at_most_from_yields_List}
use Rattle.std.proofs.lemmas.List.FromFn.{length-range_with_len}
use Rattle.std.specs.declared.ops.Range.{Range}
use Rattle.sequences.specs.Stacks.{largest}

fold_largest : {X : Type 0} (h : X → ℕ) (a : ℕ) (xs : List X) → fold (λ b x. max b (h x)) a xs ≡ max a (largest (map h xs))
fold_largest h a [] = omega arith
fold_largest h a (x ∷ xs) = fold_largest h (max a (h x)) xs ∙ omega arith

pub largest_is : {X : Type 0} (h : X → ℕ) (xs : List X) → fold (λ b x. max b (h x)) 0 xs ≡ largest (map h xs)
largest_is h xs = fold_largest h 0 xs ∙ omega arith

pub few_orders : {s : Range ℕ} (orders : ℕ) → s ≡ record { start = 0; end = orders } → orders < 2 ^ 16 → YieldsAtMost nat_range_steps s 65535
few_orders orders e l =
    at_most_from_yields_List (YieldsList-from_range 0 orders orders e (omega arith)) (omega (arith, length-range_with_len 0 orders))
