use Rattle.std.proofs.Common.{Err, sym, ap, ◌∙◌, rules}
use Rattle.std.proofs.lemmas.Result.{err_from_is_err_and}
use Rattle.jobfile.specs.Check.{in_turn, verdict}
use Rattle.jobfile.specs.Checks.{order_checks, sheet_checks}
use Rattle.jobfile.proofs.Loops.{orders_decide, sheets_stop}
use Rattle.jobfile.proofs.bytes.JobFile.check.Goals as goal

pub returns-in_err-in_turn : goal.returns-in_err-in_turn
returns-in_err-in_turn c =
    let file = c.args.self.now in
    let p = err_from_is_err_and c.from_residual-in_err-in_turn.result c.from_residual-in_err-in_turn.ensures.1 in
    let sheet = c.in_turn.ensures.value (sheet_checks file) (λ n r below post. search rules) ∙ ap (λ k. verdict (in_turn (sheet_checks file) 0 k)) c.sheets.ensures.value in
    record {
      value =
          p.1 ∙ (ap Err p.2 ∙ sym (sheets_stop file c.in_ok-check_file.ensures.value _ (sym sheet ∙ c.in_err-in_turn.was)));
    }

pub returns : goal.returns
returns c =
    let file = c.args.self.now in
    let sheet = c.in_turn.ensures.value (sheet_checks file) (λ n r below post. search rules) ∙ ap (λ k. verdict (in_turn (sheet_checks file) 0 k)) c.sheets.ensures.value in
    let order = c.in_turn-2.ensures.value (order_checks file) (λ n r below post. search rules) ∙ ap (λ k. verdict (in_turn (order_checks file) 0 k)) c.orders.ensures.value in
    record { value = order ∙ sym (orders_decide file c.in_ok-check_file.ensures.value (sym sheet ∙ c.in_ok-in_turn.was)) }
