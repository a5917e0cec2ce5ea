-- Step rules: what a rule means, and which sequences it permits.
use Rattle.std.specs.Prelude.{◌≡◌, ℕ, ◌^◌, ◌≤◌, Bool, true, List, [], ◌∷◌, is_some, Some, None, Option}
use Rattle.sets.specs.Bits.{has, with}

-- a done set and a next sheet have a figure, or the step is forbidden
abbrev pub Meaning : Type 0
Meaning = ℕ → ℕ → Option ℕ

-- no figure is above this
abbrev pub most_figure : ℕ
most_figure = 65535

-- what every rule of n sheets owes
pub record Keeps (n : ℕ) (rule : Meaning) : Type 0 where
  pub some_sheet : 1 ≤ n
  pub few_sheets : n ≤ 16
  pub figures : (S p f : ℕ) → rule S p ≡ Some f → f ≤ most_figure
  pub no_sheet : (S p : ℕ) → n ≤ p → rule S p ≡ None
  pub no_repeat : (S p : ℕ) → has S p ≡ true → rule S p ≡ None
  pub no_stranger : (S p : ℕ) → 2 ^ n ≤ S → rule S p ≡ None

-- a first figure and then some more, where none of them is forbidden
abbrev pub follow : Option ℕ → Option (List ℕ) → Option (List ℕ)
follow (Some f) (Some fs) = Some (f ∷ fs)
follow (Some f) None = None
follow None fs = None

-- the figure of each step in turn, the sheets of S being done already; none where a step is forbidden
abbrev pub figures_from : Meaning → ℕ → List ℕ → Option (List ℕ)
figures_from rule S [] = Some []
figures_from rule S (p ∷ s) = follow (rule S p) (figures_from rule (with S p) s)

abbrev pub figures : Meaning → List ℕ → Option (List ℕ)
figures rule s = figures_from rule 0 s

-- no step of the sequence is forbidden
abbrev pub permits : Meaning → List ℕ → Bool
permits rule s = is_some (figures rule s)
