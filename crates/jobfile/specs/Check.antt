-- A list of checks, and the verdict that it comes to.
use Rattle.std.specs.Prelude.{◌≡◌, ℕ, zero, suc, Bool, true, false, cond, List, [], ◌∷◌, ◌++◌, Ok, Err, Result}
use Rattle.std.specs.List.{AllByRecursion as Each}

-- whether the check holds, and the fault where it does not
pub record Check (F : Type 0) : Type 0 where
  pub holds : Bool
  pub fault : F

abbrev pub check : {F : Type 0} → Bool → F → Check F
check holds fault = record { holds = holds; fault = fault }

-- the checks of item after item, in rising number
abbrev pub in_turn : {F : Type 0} → (ℕ → List (Check F)) → ℕ → ℕ → List (Check F)
in_turn checks at zero = []
in_turn checks at (suc count) = checks at ++ in_turn checks (suc at) count

-- the fault of the first check that fails
abbrev pub verdict : {F : Type 0} → List (Check F) → Result (Unit {0}) F
verdict [] = Ok tt
verdict (c ∷ cs) = cond c.holds (verdict cs) (Err c.fault)

-- the same in words: the check fails, and all before it hold
pub record FirstFault {F : Type 0} (checks : List (Check F)) (fault : F) : Type 0 where
  pub before : List (Check F)
  pub after : List (Check F)
  pub stands : checks ≡ before ++ (check false fault ∷ after)
  pub earlier : Each (λ c. c.holds ≡ true) before
