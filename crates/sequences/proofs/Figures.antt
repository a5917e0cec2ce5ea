-- The figures of Open and Due along a sequence, in the words of the trade.
use Rattle.std.proofs.Common.{◌≡◌, ℕ, suc, ◌+◌, ◌^◌, ◌<◌, true, false, cond, not, ◌&&◌, eqb, ltb, leb, List, [], ◌∷◌, ◌++◌, map, length, get_or, Some, None, count_by, Option, sym, refl, ap, ◌∙◌, ap₂, append_assoc, arith}
use mathlib.Core.Path.{fun_ext}
use Rattle.std.proofs.lemmas.List.{length_push}
use Rattle.std.proofs.lemmas.List.Sums.{sum_by-cons}
use Rattle.std.proofs.lemmas.Bool.{and_from, cond-true, eq-eqb, le-ltb, lt-ltb, not_from_false}
use Rattle.std.specs.List.{range_with_len, AllByRecursion as Each}
use Rattle.sets.proofs.Bits.{common_counted, has_high}
use Rattle.sets.proofs.Reached.{reach_below_lem}
use Rattle.sets.specs.Bits.{has, with, AllBelow}
use Rattle.sets.specs.Reach.{reach}
use Rattle.sequences.specs.Sequences.{Sequence, times}
use Rattle.sequences.specs.Stacks.{serving, last, open_orders, steps}
use Rattle.sequences.specs.StepRules.{is_next, undone, stepping, open_figure, open_rule, due_before, due_figure, due_rule}
use Rattle.sequences.specs.Steps.{follow, figures, figures_from}
use Rattle.sequences.proofs.DoneSets.{SetOf, after_sheets, any_counted, done_below, done_counted, parts_once, reach_any, rows_below, set_undone, set_with}
use Rattle.sequences.proofs.Earliest.{open_in_step, unclosed}

-- a rule whose figure in each step of a sequence is g of that step
module _ (n : ℕ) (figure : ℕ → ℕ → ℕ) (g : ℕ → ℕ) (whole : List ℕ) (is : Sequence n whole) where
  abbrev Agrees : Type 0
  Agrees = (before after : List ℕ) (p S : ℕ) → before ++ p ∷ after ≡ whole → SetOf before S → figure S p ≡ g (suc (length before))

  module _ (agrees : Agrees) where
    is_next_lem : (before after : List ℕ) (p S : ℕ) → before ++ p ∷ after ≡ whole → SetOf before S → is_next n S p ≡ true
    is_next_lem before after p S parts h =
        let small = (after_sheets n whole before (p ∷ after) parts is).0 in
        and_from (ltb p n) (not (has S p) && ltb S (2 ^ n)) (lt-ltb p n small) (
        and_from (not (has S p)) (ltb S (2 ^ n)) (not_from_false (has S p) (fresh small)) (lt-ltb S (2 ^ n) (done_below n whole before (p ∷ after) parts is S h)))
      where
        named : p ≡ p → times (p ∷ after) p ≡ 1 + times after p
        named e = sum_by-cons (λ q. cond (eqb p q) 1 0) p after ∙ ap (λ b. cond b 1 0 + times after p) (eq-eqb p p e)

        fresh : p < n → has S p ≡ false
        fresh l =
            h p ∙ (any_counted (eqb p) before ∙ le-ltb 0 (times before p) (omega (arith, parts_once n whole before (p ∷ after) parts is p l, named refl)))

    from : (before after : List ℕ) (S k : ℕ) → before ++ after ≡ whole → SetOf before S → k ≡ suc (length before)
        → figures_from (stepping n figure) S after ≡ Some (map g (range_with_len k (length after)))
    from before [] S k parts h e = refl
    from before (p ∷ after) S k parts h e =
        ap₂ follow
        (cond-true (is_next n S p) (Some (figure S p)) None (is_next_lem before after p S parts h) ∙ ap Some (agrees before after p S parts h ∙ ap g (sym e)))
        (from (before ++ p ∷ []) after (with S p) (k + 1) (append_assoc before (p ∷ []) after ∙ parts) (set_with before S p h)
        (let l = length_push before p in omega arith))

    pub stepping-figures : figures (stepping n figure) whole ≡ Some (map g (steps whole))
    stepping-figures = from [] whole 0 1 refl (λ q. has_high 0 q 0 (omega arith) (omega arith)) refl

module _ (rows : List ℕ) (whole : List ℕ) (is : Sequence (length rows) whole) where
  -- the figure of Open in a step is the number of orders open in it
  pub open_figures : (m : ℕ) → Each (λ row. AllBelow row m) rows
      → figures (open_rule rows) whole ≡ Some (map (open_orders (serving rows) m whole) (steps whole))
  open_figures m known =
      stepping-figures (length rows) (open_figure rows) (open_orders (serving rows) m whole) whole is agrees
    where
      agrees : Agrees (length rows) (open_figure rows) (open_orders (serving rows) m whole) whole is
      agrees before after p S parts h =
          common_counted (reach rows (with S p)) (reach rows (undone (length rows) S)) m (reach_below_lem rows m (with S p) (rows_below rows m known))
          ∙ (ap (λ test. count_by test (range_with_len 0 m)) (fun_ext (λ j.
          ap₂ (λ x y. x && y)
          (reach_any rows (before ++ p ∷ []) (with S p) j (set_with before S p h))
          (reach_any rows (p ∷ after) (undone (length rows) S) j (set_undone (length rows) whole before (p ∷ after) parts is S h))
          ∙ sym (open_in_step (serving rows j) before after p)))
          ∙ ap (λ s. open_orders (serving rows) m s (suc (length before))) parts)

  -- how many orders are overdue in step t: past their due step, with their last sheet still to come
  abbrev pub overdue : List (Option ℕ) → ℕ → ℕ
  overdue dues t =
      count_by (λ j. due_before t (get_or dues j None) && leb t (last (serving rows j) whole)) (range_with_len 0 (length dues))

  -- the figure of Due in a step is the number of orders overdue in it
  pub due_figures : (dues : List (Option ℕ)) → figures (due_rule rows dues) whole ≡ Some (map (overdue dues) (steps whole))
  due_figures dues = stepping-figures (length rows) (due_figure rows dues) (overdue dues) whole is agrees
    where
      agrees : Agrees (length rows) (due_figure rows dues) (overdue dues) whole is
      agrees before after p S parts h =
          ap (λ test. count_by test (range_with_len 0 (length dues))) (fun_ext (λ j.
          ap₂ (λ t b. due_before t (get_or dues j None) && b)
          (let e = done_counted (length rows) whole before (p ∷ after) parts is S h in omega arith)
          (reach_any rows (p ∷ after) (undone (length rows) S) j (set_undone (length rows) whole before (p ∷ after) parts is S h)
          ∙ (sym (unclosed (serving rows j) before after p) ∙ ap (λ s. leb (suc (length before)) (last (serving rows j) s)) parts))))
