use Rattle.std.proofs.Common.{◌≡◌, length, Decides, sym, ap, ◌∙◌, subst, ap₂, arith}
use lib.Bits.{bit_or}
use Rattle.sets.specs.Bits.{has}
use Rattle.sets.specs.Orders.{members}
use Rattle.sets.specs.Reach.{reach, reach_below, Serves}
use Rattle.sets.specs.RowLists.{rows_of}
use Rattle.sets.proofs.RowLists.{rows_length}
use Rattle.sets.proofs.Reached.{reach_passed, reach_serves, reach_taken}
use Rattle.sets.proofs.rows.Rows.reach.Goals as goal
use Rattle.sets.proofs.rows.Rows.reach.Goals.{then-has, else-has}

pub loop-sheet-preserved : goal.loop-sheet-preserved
loop-sheet-preserved c =
    let rows = rows_of c.args.self.now in
    let S = c.args.set.bits in
    let k = c.loop-sheet.sheet in
    let inv = c.loop-sheet.invariant in
    elim c.if-has.branch [
      | then-has w ↦
          ap members w.reached-is
          ∙ (w.union-reached.ensures.value
          ∙ (ap₂ bit_or inv w.row.ensures.value
          ∙ reach_taken rows S k (sym c.has.ensures.value ∙ w.if-has.true)))
      | else-has w ↦
          ap members w.reached-is ∙ (inv ∙ reach_passed rows S k (sym c.has.ensures.value ∙ w.if-has.false))
    ]

pub returns : goal.returns
returns c =
    let rows = rows_of c.args.self.now in
    let S = c.args.set.bits in
    let all : length rows ≡ c.loop-sheet.sheet =
    omega (arith, rows_length c.args.self.now.rows c.args.self.now.count (omega arith)) in
    let e : members c.loop-sheet.reached ≡ reach rows S = c.loop-sheet.invariant ∙ ap (reach_below rows S) (sym all) in
    record {
      value = e;
      members = λ j. subst (λ n. Decides (has n j) (Serves rows S j)) (sym e) (reach_serves rows S j);
    }
