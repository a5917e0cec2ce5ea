-- An array made by a closure that changes nothing: what each call gives, each entry has.
use Rattle.std.proofs.Common.{◌≡◌, ℕ, zero, suc, ◌+◌, ◌<◌, ◌≤◌, List, get_or, sym, subst, ⊎_elim, arith}
use Rattle.std.proofs.lemmas.Bool.{cases_eq}
use Rattle.std.specs.Array.{IsFromFnResultFrom}
use Rattle.std.specs.Fn.{Mut, Called}

module _ {F B : Type 0} (g : Mut F (ℕ × Unit {0}) B) (f : F) (P : ℕ → B → Type 0) (ys : List B)
    (call : (i : ℕ) (y : B) (q : F) → Called g f (i, tt) y q → P i y × (q ≡ f)) where
  pub each_made : (a n : ℕ) → IsFromFnResultFrom g f ys a n → (i : ℕ) (d : B) → a ≤ i → i < a + n → P i (get_or ys i d)
  each_made a zero made i d from below = absurd (omega arith)
  each_made a (suc n) made i d from below =
      let here = call a made.1 made.0 made.3 in
      ⊎_elim
      (λ (e : i ≡ a). subst (λ k. P k (get_or ys k d)) (sym e) (subst (P a) (sym (made.2.1 d)) here.0))
      (λ ne. each_made (a + 1) n (subst (λ q. IsFromFnResultFrom g q ys (a + 1) n) here.1 made.4) i d (omega arith) (omega arith))
      (cases_eq i a)
