-- The value of a sequence, one step after another.
use Rattle.std.proofs.Common.{◌≡◌, ℕ, ◌+◌, ◌<◌, ltb, List, length, get_or, drop, Some, None, fold, Option, sym, refl, ◌∙◌, arith}
use Rattle.sets.specs.Bits.{with, with_in}
use Rattle.std.proofs.lemmas.List.{at_drop_more}
use Rattle.std.proofs.lemmas.Bool.{cond-true, lt-ltb}
use Rattle.sequences.specs.Steps.{Keeps, Meaning, figures_from, follow}
use Rattle.sequences.specs.Values.{Ops, extended, value}

-- a value extended by more figures
abbrev pub walked : {M : Type 0} → Ops M → M → Option (List ℕ) → Option M
walked o v None = None
walked o v (Some fs) = Some (fold o.extend v fs)

module _ {M : Type 0} (o : Ops M) where
  pub walk_starts : (v : M) (fs : Option (List ℕ)) → v ≡ o.start → extended o fs ≡ walked o v fs
  walk_starts v None e = refl
  walk_starts v (Some fs) e = cc

  walked_on : (v : M) (f : ℕ) (rest : Option (List ℕ)) → walked o v (follow (Some f) rest) ≡ walked o (o.extend v f) rest
  walked_on v f None = refl
  walked_on v f (Some fs) = refl

  module _ (rule : Meaning) where
    -- a figure is given only of a sheet for which a set has room
    known : (n S p f : ℕ) → Keeps n rule → rule S p ≡ Some f → p < 32
    known n S p f keeps e = grind (arith, keeps.no_sheet S p, keeps.few_sheets)

    module _ (v : M) (S : ℕ) (s : List ℕ) (i : ℕ) (more : i < length s) where
      abbrev p : ℕ
      p = get_or s i 0

      abbrev rest : Option (List ℕ)
      rest = figures_from rule (with S p) (drop (i + 1) s)

      next : walked o v (figures_from rule S (drop i s)) ≡ walked o v (follow (rule S p) rest)
      next = at_drop_more (λ left. walked o v (figures_from rule S left)) s i 0 more

      pub walk_stops : rule S p ≡ None → walked o v (figures_from rule S (drop i s)) ≡ None
      walk_stops e = rw (next, e)

      pub walk_on : (n : ℕ) → Keeps n rule → (f : ℕ) (w : M) (T : ℕ)
          → rule S p ≡ Some f → w ≡ o.extend v f → T ≡ with_in 32 S p
          → walked o v (figures_from rule S (drop i s)) ≡ walked o w (figures_from rule T (drop (i + 1) s))
      walk_on n keeps f w T e value_is done_is =
          cc (next, walked_on v f rest, cond-true (ltb p 32) (with S p) S (lt-ltb p 32 (known n S p f keeps e)))

      -- the value is v, extended by the figures from place i on
      module _ (so_far : value o rule s ≡ walked o v (figures_from rule S (drop i s))) where
        pub value_stops : None ≡ rule S p → value o rule s ≡ None
        value_stops e = so_far ∙ walk_stops (sym e)

        pub value_on : (n : ℕ) → Keeps n rule → (f : ℕ) (w : M) (T : ℕ)
            → rule S p ≡ Some f → w ≡ o.extend v f → T ≡ with_in 32 S p
            → value o rule s ≡ walked o w (figures_from rule T (drop (i + 1) s))
        value_on n keeps f w T e value_is done_is = so_far ∙ walk_on n keeps f w T e value_is done_is
