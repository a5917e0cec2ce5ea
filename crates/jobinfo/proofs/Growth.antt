-- A text to which `try_fold` adds a piece for each item.
use Rattle.std.proofs.Common.{◌≡◌, ℕ, Option, Some, None, Result, Ok, Err, List, [], ◌∷◌, ◌++◌, map, IfOk, subst, sym, ap, ◌∙◌, append_assoc}
use Rattle.std.proofs.lemmas.Iterator.{YieldsList, items_from_drains}
use Rattle.std.proofs.lemmas.List.{append-nil}
use Rattle.std.specs.Fn.{Called}
use Rattle.std.specs.Iterator.{TryFoldsItems, TryFoldTurn, YieldsThen}
use Rattle.std.specs.List.{flat_map, FoldsTo}
use Rattle.std.specs.Option.{MatchOption}
use Rattle.std.specs.Result.{IsErr, IsErrAnd, result_from_control_flow}
use denote.Param.Members.{Mut}

none_made : {T E : Type 0} (P : T → Type 0) (r : Result T E) → IsErr r → IfOk r P
none_made P (Ok t) e = absurd cc
none_made P (Err x) e = tt

module _ {F A B E : Type 0} (g : Mut F (List ℕ × (A × Unit {0})) (Result (List ℕ) E)) (v : A → B) (piece : B → List ℕ) (f : F)
    (step : (t : List ℕ) (x : A) (r : Result (List ℕ) E) (q : F) → Called g f (t, (x, tt)) r q → (q ≡ f) × IfOk r (λ u. u ≡ t ++ piece (v x))) where
  abbrev Turn : F × List ℕ → A → F × List ℕ → Type 0
  Turn = TryFoldTurn g (λ r c. r ≡ result_from_control_flow c)

  turns : (xs : List A) (t a : List ℕ) (q : F) → FoldsTo Turn (f, t) xs (q, a) → a ≡ t ++ flat_map piece (map v xs)
  turns [] t a q c = sym (ap (λ (p : F × List ℕ). p.1) c) ∙ sym (append-nil t)
  turns (x ∷ xs) t a q c =
      let one : (c.0.0 ≡ f) × (c.0.1 ≡ t ++ piece (v x)) = step t x (Ok c.0.1) c.0.0 (subst (λ r. Called g f (t, (x, tt)) r c.0.0) c.1.2 c.1.1) in
      turns xs (t ++ piece (v x)) a q (subst (λ (p : F × List ℕ). FoldsTo Turn p xs (q, a)) {x = c.0} {y = (f, t ++ piece (v x))} (λ i. (one.0 i, one.1 i)) c.2)
      ∙ append_assoc t (piece (v x)) (flat_map piece (map v xs))

  module _ {S : Type 0} {steps : S → Option A → S → Type 0} {s : S} {all : List B} (from : YieldsList steps v s all) (text : List ℕ) (u : S) (r : Result (List ℕ) E) where
    ended : (xs : List A) (o : Option A) (q : F) (a : List ℕ) (Broken : A → Type 0) → ((x : A) → Broken x → IsErr r) → YieldsThen steps s xs o u
        → FoldsTo Turn (f, text) xs (q, a) → MatchOption o (r ≡ Ok a) Broken → IfOk r (λ t. t ≡ text ++ flat_map piece all)
    ended xs None q a Broken fails y c e =
        subst (λ r. IfOk r (λ t. t ≡ text ++ flat_map piece all)) (sym e)
        (turns xs text a q c ∙ ap (λ ys. text ++ flat_map piece ys) (items_from_drains xs (y.0, y.1, λ _. (u, y.2)) from))
    ended xs (Some x) q a Broken fails y c e = none_made _ r (fails x e)

    pub grown : (R : E → E → Type 0)
        → TryFoldsItems steps g (λ r c. r ≡ result_from_control_flow c) (λ e r. IsErr r × IsErrAnd r (R e.0)) s f text r u
        → IfOk r (λ t. t ≡ text ++ flat_map piece all)
    grown R d = ended d.0 d.1 d.2 d.3 _ (λ x e. e.5.0) d.4 d.5 d.6
