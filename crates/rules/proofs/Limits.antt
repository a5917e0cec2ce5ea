-- The figures of a sequence under a limit, and under a pile of limits.
use Rattle.std.proofs.Common.{◌≡◌, ℕ, Bool, true, false, cond, ◌&&◌, leb, List, [], ◌∷◌, ◌++◌, Some, None, Option, refl, ap, ◌∙◌}
use Rattle.rules.specs.Piles.{pile, within, within_all}
use Rattle.sets.specs.Bits.{with}
use Rattle.sequences.specs.Steps.{Meaning, figures, figures_from, follow}
use Rattle.sequences.specs.StepRules.{at_most, limit}
use Rattle.std.specs.List.{list_all}

both : (x y : Bool) (f : ℕ) (fs : List ℕ)
    → follow (cond x (Some f) None) (cond y (Some fs) None) ≡ cond (x && y) (Some (f ∷ fs)) None
both true true f fs = refl
both true false f fs = refl
both false y f fs = refl

neither : (x : Bool) (f : ℕ) → follow (cond x (Some f) None) None ≡ None
neither true f = refl
neither false f = refl

follow-within : (k : ℕ) (o : Option ℕ) (rest : Option (List ℕ)) → follow (at_most k o) (within k rest) ≡ within k (follow o rest)
follow-within k None rest = refl
follow-within k (Some f) None = neither (leb f k) f
follow-within k (Some f) (Some fs) = both (leb f k) (list_all (λ g. leb g k) fs) f fs

from_within : (k : ℕ) (rule : Meaning) (S : ℕ) (s : List ℕ) → figures_from (limit k rule) S s ≡ within k (figures_from rule S s)
from_within k rule S [] = refl
from_within k rule S (p ∷ s) =
    ap (follow (at_most k (rule S p))) (from_within k rule (with S p) s)
    ∙ follow-within k (rule S p) (figures_from rule (with S p) s)

pub figures-within : (k : ℕ) (rule : Meaning) (s : List ℕ) → figures (limit k rule) s ≡ within k (figures rule s)
figures-within k rule s = from_within k rule 0 s

pub figures-pile : (ks : List ℕ) (k : ℕ) (rule : Meaning) (s : List ℕ)
    → figures (pile ks (limit k rule)) s ≡ within_all (ks ++ k ∷ []) (figures rule s)
figures-pile [] k rule s = figures-within k rule s
figures-pile (j ∷ ks) k rule s = figures-within j (pile ks (limit k rule)) s ∙ ap (within j) (figures-pile ks k rule s)
