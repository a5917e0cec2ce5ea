-- The definitions on a worked job: rows 3, 6, 1 and dues 2, none, 3.
use Rattle.std.proofs.Common.{◌≡◌, ℕ, true, false, List, [], ◌∷◌, Some, None, Option, refl}
use Rattle.sequences.specs.Sequences.{is_sequence}
use Rattle.sequences.specs.Stacks.{serving, peak, spread, lateness}
use Rattle.sequences.specs.StepRules.{open_rule, due_rule, limit}
use Rattle.sequences.specs.Steps.{figures, permits}

abbrev rows : List ℕ
rows = 3 ∷ 6 ∷ 1 ∷ []

abbrev dues : List (Option ℕ)
dues = Some 2 ∷ None ∷ Some 3 ∷ []

abbrev s : List ℕ
s = 1 ∷ 2 ∷ 0 ∷ []

is_sequence_lem : is_sequence 3 s ≡ true
is_sequence_lem = refl

peak_2 : peak (serving rows) 3 s ≡ 2
peak_2 = refl

spread_6 : spread (serving rows) 3 s ≡ 6
spread_6 = refl

late_1 : lateness (serving rows) 3 dues s ≡ 1
late_1 = refl

open_figures : figures (open_rule rows) s ≡ Some (2 ∷ 2 ∷ 2 ∷ [])
unfolding lib.Count.ones
open_figures = refl

due_figures : figures (due_rule rows dues) s ≡ Some (0 ∷ 0 ∷ 1 ∷ [])
unfolding lib.Count.ones
due_figures = refl

limit_1 : permits (limit 1 (open_rule rows)) s ≡ false
unfolding lib.Count.ones
limit_1 = refl
