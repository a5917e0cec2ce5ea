use Rattle.std.proofs.Common.{◌≡◌, ◌<◌, true, is_ok, [], ◌∷◌, ◌++◌, length, sym, ap, ◌∙◌, ap₂, arith}
use Rattle.std.proofs.lemmas.List.{length-take-le, take_more}
use Rattle.std.proofs.lemmas.Bool.{cond-true, lt-ltb}
use Rattle.sets.specs.Orders.{members}
use Rattle.sets.specs.RowLists.{rows_of}
use Rattle.job.specs.Jobs.{content_of}
use Rattle.job.proofs.Readings.{job_sound}
use Rattle.job.proofs.job.Job.rows.Goals as goal

-- there is room for one row more, since there are at most 16
pub loop-sheet-preserved : goal.loop-sheet-preserved
loop-sheet-preserved c =
    let rows = (content_of c.args.self.now).rows in
    let sound = job_sound c.args.self.now in
    let sheet = c.loop-sheet.sheet in
    let inv = c.loop-sheet.invariant in
    let more : sheet < length rows = omega (arith, c.sheets-sheet-end.ensures.value) in
    let size : length (rows_of c.loop-sheet.rows) ≡ sheet = ap length inv ∙ length-take-le sheet rows (omega arith) in
    let fits : is_ok c.add.result ≡ true =
    c.add.ensures.value ∙ lt-ltb (length (rows_of c.loop-sheet.rows)) 16 (omega (arith, size, sound.few_sheets)) in
    c.add.ensures.after
    ∙ (cond-true (is_ok c.add.result) (rows_of c.loop-sheet.rows ++ members c.row-in-loop-sheet.result ∷ []) (rows_of c.loop-sheet.rows) fits
    ∙ (ap₂ (λ xs r. xs ++ r ∷ []) inv c.row-in-loop-sheet.ensures.value ∙ sym (take_more rows sheet 0 more)))
