-- The steps of the reader's loops.
use Rattle.std.proofs.Common.{◌≡◌, ℕ, suc, ◌+◌, ◌-◌, ◌<◌, List, [], ◌∷◌, ◌++◌, map, Ok, Err, Result, sym, refl, ap, ◌∙◌, ⊎_elim, add-one, arith}
use Rattle.std.proofs.lemmas.Bool.{cases_Bool, cond-true, cond-false}
use Rattle.faults.specs.declared.file.FileFault.{FileFault}
use Rattle.faults.specs.declared.job.JobFault.{JobFault}
use Rattle.faults.specs.declared.job.JobFault.TheVariants.{File}
use Rattle.jobfile.specs.Check.{Check, in_turn, verdict}
use Rattle.jobfile.specs.Fields.{orders, sheets}
use Rattle.jobfile.specs.Checks.{checks, file_checks, in_file, order_checks, sheet_checks}

module _ {F : Type 0} where
  pub not_passed : (fault : F) → ◌≡◌ {A = Result (Unit {0}) F} (Err fault) (Ok tt) → ⊥
  not_passed fault e = let z : ◌≡◌ {A = ℕ} 0 1 = cc in omega arith

  -- checks that hold leave the verdict to those after them, and a fault is the whole verdict
  pub verdict_passes : (before after : List (Check F)) → verdict before ≡ Ok tt → verdict (before ++ after) ≡ verdict after
  verdict_passes [] after passed = refl
  verdict_passes (c ∷ before) after passed =
      ⊎_elim
      (λ e.
      cond-true c.holds (verdict (before ++ after)) (Err c.fault) e
      ∙ verdict_passes before after (sym (cond-true c.holds (verdict before) (Err c.fault) e) ∙ passed))
      (λ e. absurd (not_passed c.fault (sym (cond-false c.holds (verdict before) (Err c.fault) e) ∙ passed)))
      (cases_Bool c.holds)

  pub verdict_stops : (before after : List (Check F)) (fault : F) → verdict before ≡ Err fault → verdict (before ++ after) ≡ Err fault
  verdict_stops [] after fault failed = absurd (not_passed fault (sym failed))
  verdict_stops (c ∷ before) after fault failed =
      ⊎_elim
      (λ e.
      cond-true c.holds (verdict (before ++ after)) (Err c.fault) e
      ∙ verdict_stops before after fault (sym (cond-true c.holds (verdict before) (Err c.fault) e) ∙ failed))
      (λ e.
      cond-false c.holds (verdict (before ++ after)) (Err c.fault) e
      ∙ (sym (cond-false c.holds (verdict before) (Err c.fault) e) ∙ failed))
      (cases_Bool c.holds)

  -- the items in turn, from i on: the next one and those after it
  module _ (checks : ℕ → List (Check F)) (i n : ℕ) (h : i < n) where
    turn_more : in_turn checks i (n - i) ≡ checks i ++ in_turn checks (i + 1) (n - (i + 1))
    turn_more =
        let left : n - i ≡ suc (n - (i + 1)) = omega arith in
        ap (in_turn checks i) left ∙ ap (λ k. checks i ++ in_turn checks k (n - (i + 1))) (sym (add-one i))

    pub turn_passes : verdict (checks i) ≡ Ok tt
        → verdict (in_turn checks i (n - i)) ≡ verdict (in_turn checks (i + 1) (n - (i + 1)))
    turn_passes passed = ap verdict turn_more ∙ verdict_passes (checks i) (in_turn checks (i + 1) (n - (i + 1))) passed

    pub turn_stops : (fault : F) → verdict (checks i) ≡ Err fault → verdict (in_turn checks i (n - i)) ≡ Err fault
    turn_stops fault failed = ap verdict turn_more ∙ verdict_stops (checks i) (in_turn checks (i + 1) (n - (i + 1))) fault failed

-- faults of the file, carried inside faults of the job
pub in_file_passes : (cs : List (Check FileFault)) → verdict cs ≡ Ok tt → verdict (map in_file cs) ≡ Ok tt
in_file_passes [] passed = refl
in_file_passes (c ∷ cs) passed =
    ⊎_elim
    (λ e.
    cond-true c.holds (verdict (map in_file cs)) (Err (File c.fault)) e
    ∙ in_file_passes cs (sym (cond-true c.holds (verdict cs) (Err c.fault) e) ∙ passed))
    (λ e. absurd (not_passed c.fault (sym (cond-false c.holds (verdict cs) (Err c.fault) e) ∙ passed)))
    (cases_Bool c.holds)

pub in_file_stops : (cs : List (Check FileFault)) (fault : FileFault) → verdict cs ≡ Err fault → verdict (map in_file cs) ≡ Err (File fault)
in_file_stops [] fault failed = absurd (not_passed fault (sym failed))
in_file_stops (c ∷ cs) fault failed =
    ⊎_elim
    (λ e.
    cond-true c.holds (verdict (map in_file cs)) (Err (File c.fault)) e
    ∙ in_file_stops cs fault (sym (cond-true c.holds (verdict cs) (Err c.fault) e) ∙ failed))
    (λ e.
    cond-false c.holds (verdict (map in_file cs)) (Err (File c.fault)) e
    ∙ (let same : ◌≡◌ {A = Result (Unit {0}) FileFault} (Err c.fault) (Err fault) = sym (cond-false c.holds (verdict cs) (Err c.fault) e) ∙ failed in
    let inner : c.fault ≡ fault = cc in ap (λ f. Err (File f)) inner))
    (cases_Bool c.holds)

-- where the header passes, the sheets decide, and then the orders
module _ (file : List ℕ) (header : Ok tt ≡ verdict (file_checks file)) where
  abbrev of_sheets : List (Check JobFault)
  of_sheets = in_turn (sheet_checks file) 0 (sheets file)

  abbrev of_orders : List (Check JobFault)
  of_orders = in_turn (order_checks file) 0 (orders file)

  after_header : verdict (checks file) ≡ verdict (of_sheets ++ of_orders)
  after_header = verdict_passes (map in_file (file_checks file)) (of_sheets ++ of_orders) (in_file_passes (file_checks file) (sym header))

  pub sheets_stop : (fault : JobFault) → verdict of_sheets ≡ Err fault → verdict (checks file) ≡ Err fault
  sheets_stop fault failed = after_header ∙ verdict_stops of_sheets of_orders fault failed

  pub orders_decide : verdict of_sheets ≡ Ok tt → verdict (checks file) ≡ verdict of_orders
  orders_decide passed = after_header ∙ verdict_passes of_sheets of_orders passed
