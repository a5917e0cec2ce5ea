-- Objectives: their operations, the laws that these keep, and the value of a sequence.
use Rattle.std.specs.Prelude.{◌≡◌, ℕ, ◌≤◌, ◌⊎◌, List, Some, None, fold, Option}
use Rattle.sequences.specs.Steps.{Meaning, most_figure, figures}

-- a start value, a value extended by a figure, and two values joined to one
pub record Ops (M : Type 0) : Type 0 where
  pub start : M
  pub extend : M → ℕ → M
  pub join : M → M → M

-- join depends on neither order nor bracketing, and a join is extended by extending both of its values
pub record Lawful {M : Type 0} (o : Ops M) : Type 0 where
  pub comm : (v w : M) → o.join v w ≡ o.join w v
  pub assoc : (u v w : M) → o.join (o.join u v) w ≡ o.join u (o.join v w)
  pub dist : (v w : M) (f : ℕ) → f ≤ most_figure → o.extend (o.join v w) f ≡ o.join (o.extend v f) (o.extend w f)

-- a join is always one of its two values
abbrev pub Picks : {M : Type 0} → Ops M → Type 0
Picks {M} o = (v w : M) → (o.join v w ≡ v) ⊎ (o.join v w ≡ w)

-- v is at most as dear as w
abbrev pub AtMostAsDear : {M : Type 0} → Ops M → M → M → Type 0
AtMostAsDear o v w = o.join v w ≡ v

pub record TotalPreorder {M : Type 0} (le : M → M → Type 0) : Type 0 where
  pub refl : (v : M) → le v v
  pub trans : (u v w : M) → le u v → le v w → le u w
  pub total : (v w : M) → le v w ⊎ le w v

-- start, extended by each figure in turn
abbrev pub extended : {M : Type 0} → Ops M → Option (List ℕ) → Option M
extended o None = None
extended o (Some fs) = Some (fold o.extend o.start fs)

-- the value of a sequence; none where a step of it is forbidden
abbrev pub value : {M : Type 0} → Ops M → Meaning → List ℕ → Option M
value o rule s = extended o (figures rule s)
