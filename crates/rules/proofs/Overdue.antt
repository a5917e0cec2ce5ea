-- The Due rule by a set of orders for each step is the Due rule.
use Rattle.std.proofs.Common.{◌≡◌, ℕ, ◌+◌, ◌<◌, ◌≤◌, cond, ◌&&◌, List, map, length, get_or, set, Some, None, count_by, Option, sym, ap, ◌∙◌, ⊎_elim, arith}
use mathlib.Core.Path.{fun_ext}
use lib.Bits.{bit_and}
use lib.Count.{ones}
use Rattle.rules.proofs.Few.{few_done}
use Rattle.rules.specs.DueSets.{DueBefore, overdue_figure, overdue_rule}
use Rattle.sets.specs.declared.orders.OrderSet.{OrderSet}
use Rattle.sets.specs.Bits.{has}
use Rattle.sets.specs.Orders.{members}
use Rattle.sets.specs.Reach.{reach}
use Rattle.sets.proofs.Bits.{below_from_bits, common_counted, off_from_has}
use Rattle.sequences.specs.StepRules.{due_before, due_figure, due_rule, is_next, undone}
use Rattle.std.proofs.lemmas.List.{get_or_past}
use Rattle.std.proofs.lemmas.Bool.{cases_Bool, cond-false}
use Rattle.std.specs.List.{range_with_len}

module _ (rows : List ℕ) (dues : List (Option ℕ)) (overdue : List OrderSet) where
  counted : (set left t : ℕ) → DueBefore dues t set
      → ones (bit_and set left) ≡ count_by (λ j. due_before t (get_or dues j None) && has left j) (range_with_len 0 (length dues))
  counted set left t before =
      common_counted set left (length dues)
      (below_from_bits set (length dues)
      (λ j past. off_from_has set j (before.each j ∙ ap (due_before t) (get_or_past dues j None past))))
      ∙ ap (λ p. count_by p (range_with_len 0 (length dues))) (fun_ext (λ j. ap (λ b. b && has left j) (before.each j)))

  module _ (few : length rows ≤ 16) (each : (t : ℕ) → t < 16 → DueBefore dues (t + 1) (get_or (map members overdue) t 0)) where
    at : (S p : ℕ) → overdue_rule rows overdue S p ≡ due_rule rows dues S p
    at S p =
        let n = length rows in
        ⊎_elim
        (λ next.
        ap (λ f. cond (is_next n S p) (Some f) None)
        (counted (get_or (map members overdue) (ones S) 0) (reach rows (undone n S)) (ones S + 1)
        (each (ones S) (omega (arith, few, few_done n S p next)))))
        (λ never.
        cond-false (is_next n S p) (Some (overdue_figure rows overdue S p)) None never
        ∙ sym (cond-false (is_next n S p) (Some (due_figure rows dues S p)) None never))
        (cases_Bool (is_next n S p))

    pub overdue_due : overdue_rule rows overdue ≡ due_rule rows dues
    overdue_due = fun_ext (λ S. fun_ext (at S))
