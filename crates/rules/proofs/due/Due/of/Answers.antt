use Rattle.std.proofs.Common.{ℕ, ◌+◌, ◌<◌, length, get_or, sym, ap, ◌∙◌, subst, arith, rules}
use Rattle.std.proofs.lemmas.List.{get_or-map}
use Rattle.job.specs.Jobs.{content_of}
use Rattle.rules.specs.DueSets.{DueBefore, overdue_rule}
use Rattle.sets.specs.declared.orders.OrderSet.{OrderSet}
use Rattle.sets.specs.Orders.{members}
use Rattle.sets.proofs.Room.{few_rows}
use Rattle.rules.proofs.FromFn.{each_made}
use Rattle.rules.proofs.Overdue.{overdue_due}
use Rattle.rules.proofs.due.Due.of.Goals as goal

-- any set of orders
some_set : OrderSet
some_set = record { bits = 0; fits = omega arith }

pub returns-clause-asks : goal.returns-clause-asks
returns-clause-asks c =
    let content = content_of c.args.job.now in
    let rows = c.rows.ensures.value in
    let overdue = c.from_fn-overdue.result in
    let made = c.from_fn-overdue.ensures.items in
    let entry : (t : ℕ) → t < 16 → DueBefore content.dues (t + 1) (members (get_or overdue t some_set)) =
    λ t h. each_made _ _ (λ t orders. DueBefore content.dues (t + 1) (members orders)) overdue (λ i y q said. (search rules, search rules)) 0 16 made.each t some_set (omega arith) (omega arith) in
    c.new.ensures.asks
    ∙ (ap (λ rs. overdue_rule rs overdue) rows
    ∙ overdue_due content.rows content.dues overdue (omega (arith, ap length rows, few_rows c.rows.result))
    (λ t h. subst (DueBefore content.dues (t + 1)) (sym (get_or-map members overdue t some_set 0 (omega (arith, made.long)))) (entry t h)))
