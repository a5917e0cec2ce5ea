-- A list of checks passes exactly when every check holds, and otherwise gives its first fault.
use Rattle.std.proofs.Common.{◌≡◌, ℕ, zero, suc, ◌+◌, ◌<◌, true, false, List, [], ◌∷◌, ◌++◌, Ok, Err, Result, sym, refl, ap, ◌∙◌, subst, ap₂, ⊎_elim, add-zero, zero-add, arith}
use Rattle.std.proofs.ByRecursion.{All-append}
use Rattle.std.proofs.lemmas.Bool.{cases_Bool, cond-true, cond-false}
use Rattle.std.specs.List.{AllByRecursion as Each}
use Rattle.jobfile.specs.Check.{Check, check, in_turn, verdict, FirstFault}
use Rattle.jobfile.proofs.Loops.{not_passed}

abbrev pub Holds : {F : Type 0} → Check F → Type 0
Holds c = c.holds ≡ true

pub all_split : {X : Type 0} (P : X → Type 0) (xs ys : List X) → Each P (xs ++ ys) → Each P xs × Each P ys
all_split P [] ys h = (tt, h)
all_split P (x ∷ xs) ys h = let rest = all_split P xs ys h.1 in ((h.0, rest.0), rest.1)

module _ {F : Type 0} where
  pub verdict_holds : (cs : List (Check F)) → verdict cs ≡ Ok tt → Each Holds cs
  verdict_holds [] passed = tt
  verdict_holds (c ∷ cs) passed =
      ⊎_elim
      (λ e. (e, verdict_holds cs (sym (cond-true c.holds (verdict cs) (Err c.fault) e) ∙ passed)))
      (λ e. absurd (not_passed c.fault (sym (cond-false c.holds (verdict cs) (Err c.fault) e) ∙ passed)))
      (cases_Bool c.holds)

  pub holds_verdict : (cs : List (Check F)) → Each Holds cs → verdict cs ≡ Ok tt
  holds_verdict [] h = refl
  holds_verdict (c ∷ cs) h = cond-true c.holds (verdict cs) (Err c.fault) h.0 ∙ holds_verdict cs h.1

  pub first_fault : (cs : List (Check F)) (fault : F) → verdict cs ≡ Err fault → FirstFault cs fault
  first_fault [] fault failed = absurd (not_passed fault (sym failed))
  first_fault (c ∷ cs) fault failed =
      ⊎_elim
      (λ e. later e (first_fault cs fault (sym (cond-true c.holds (verdict cs) (Err c.fault) e) ∙ failed)))
      here
      (cases_Bool c.holds)
    where
      later : c.holds ≡ true → FirstFault cs fault → FirstFault (c ∷ cs) fault
      later e rest =
          record {
            before = c ∷ rest.before;
            after = rest.after;
            stands = ap (λ xs. c ∷ xs) rest.stands;
            earlier = (e, rest.earlier);
          }

      here : c.holds ≡ false → FirstFault (c ∷ cs) fault
      here e =
          let same : ◌≡◌ {A = Result (Unit {0}) F} (Err c.fault) (Err fault) =
          sym (cond-false c.holds (verdict cs) (Err c.fault) e) ∙ failed in
          let inner : c.fault ≡ fault = cc in
          let first : c ≡ check false fault = ap₂ check e inner in
          record { before = []; after = cs; stands = ap (λ x. x ∷ cs) first; earlier = tt }

  -- the checks of each item in turn
  turn_holds : (checks : ℕ → List (Check F)) (at count : ℕ) → Each Holds (in_turn checks at count)
      → (k : ℕ) → k < count → Each Holds (checks (at + k))
  turn_holds checks at zero h k l = absurd (omega arith)
  turn_holds checks at (suc count) h zero l = subst (λ i. Each Holds (checks i)) (sym (add-zero at)) (all_split Holds (checks at) (in_turn checks (suc at) count) h).0
  turn_holds checks at (suc count) h (suc k) l =
      let e : suc at + k ≡ at + suc k = omega arith in
      subst (λ i. Each Holds (checks i)) e
      (turn_holds checks (suc at) count (all_split Holds (checks at) (in_turn checks (suc at) count) h).1 k (omega arith))

  holds_turn : (checks : ℕ → List (Check F)) (at count : ℕ) → ((k : ℕ) → k < count → Each Holds (checks (at + k)))
      → Each Holds (in_turn checks at count)
  holds_turn checks at zero h = tt
  holds_turn checks at (suc count) h =
      All-append Holds (checks at) (in_turn checks (suc at) count)
      (subst (λ i. Each Holds (checks i)) (add-zero at) (h 0 (omega arith)))
      (holds_turn checks (suc at) count
      (λ k l. let e : at + suc k ≡ suc at + k = omega arith in subst (λ i. Each Holds (checks i)) e (h (suc k) (omega arith))))

  module _ (checks : ℕ → List (Check F)) (count : ℕ) where
    pub turn_each : Each Holds (in_turn checks 0 count) → (k : ℕ) → k < count → Each Holds (checks k)
    turn_each h k l = subst (λ i. Each Holds (checks i)) (zero-add k) (turn_holds checks 0 count h k l)

    pub each_turn : ((k : ℕ) → k < count → Each Holds (checks k)) → Each Holds (in_turn checks 0 count)
    each_turn h = holds_turn checks 0 count (λ k l. subst (λ i. Each Holds (checks i)) (sym (zero-add k)) (h k l))
