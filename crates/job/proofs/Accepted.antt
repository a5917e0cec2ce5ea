-- A file passes every check exactly when it is well formed.
use Rattle.std.proofs.Common.{◌≡◌, ℕ, ◌*◌, ◌<◌, ◌≤◌, true, List, [], ◌++◌, map, length, get_or, drop, None, Ok, Decides, sym, ap, ◌∙◌, subst, arith}
use Rattle.std.proofs.lemmas.List.FromFn.{get_or-map-range_with_len, length-map-range_with_len}
use Rattle.std.proofs.ByRecursion.{All-append}
use Rattle.std.proofs.lemmas.List.{length-take, length-drop}
use Rattle.std.proofs.lemmas.Bool.{and_from, and_parts, eqb-true, eq-eqb, leb-true, le-leb}
use Rattle.std.specs.List.{AllByRecursion as Each}
use Rattle.sets.specs.Bits.{has, AllBelow}
use Rattle.sets.proofs.Bits.{below_decides}
use Rattle.jobfile.specs.Check.{in_turn, verdict}
use Rattle.job.specs.Content.{content, due}
use Rattle.jobfile.specs.Edition.{header_bytes, row_bytes, record_bytes, most_sheets, most_orders, most_label_bytes}
use Rattle.jobfile.specs.Fields.{edition, sheets, orders, rows_at, records_at, stated_length, row, due_step, label, label_at, label_bytes}
use Rattle.jobfile.specs.Tests.{between, inside, served}
use Rattle.jobfile.specs.Checks.{checks, file_checks, in_file, order_checks, sheet_checks}
use Rattle.job.specs.WellFormed.{Busy, Due, Inside, Label, Layout, Served, Sound, WellFormed}
use Rattle.job.proofs.Conditions.{any_decides, between_decides, busy_decides, distinct_decides, due_decides, inside_decides, printed_decides}
use Rattle.job.proofs.Counted.{all_counted, each_counted}
use Rattle.job.proofs.Verdicts.{Holds, all_split, each_turn, holds_verdict, turn_each, verdict_holds}

module _ (file : List ℕ) where
  -- the content has a row for each sheet and a label for each order
  pub rows_length : length (content file).rows ≡ sheets file
  rows_length = length-map-range_with_len (row file) 0 (sheets file)

  pub labels_length : length (content file).labels ≡ orders file
  labels_length = length-map-range_with_len (label file) 0 (orders file)

  pub dues_length : length (content file).dues ≡ orders file
  dues_length = length-map-range_with_len (due file) 0 (orders file)

  pub row_at : (sheet : ℕ) → sheet < sheets file → get_or (content file).rows sheet 0 ≡ row file sheet
  row_at sheet h = get_or-map-range_with_len (row file) 0 (sheets file) sheet sheet 0 h (omega arith)

  pub label_at_lem : (order : ℕ) → order < orders file → get_or (content file).labels order [] ≡ label file order
  label_at_lem order h = get_or-map-range_with_len (label file) 0 (orders file) order order [] h (omega arith)

  pub due_at : (order : ℕ) → order < orders file → get_or (content file).dues order None ≡ due file order
  due_at order h = get_or-map-range_with_len (due file) 0 (orders file) order order None h (omega arith)

  label_length : (order : ℕ) → Inside file (label_at file order) (label_bytes file order)
      → length (label file order) ≡ label_bytes file order
  label_length order i =
      omega (
        arith,
        i.before_end,
        length-take (label_bytes file order) (drop (label_at file order) file),
        length-drop (label_at file order) file,
      )

  -- an order is served in the file exactly when it is in the content
  served_decides : (order : ℕ) → Decides (served file order) (Served (content file).rows order)
  served_decides order = (
    (λ e.
        let w = (any_decides (λ p. has (row file p) order) (sheets file)).0 e in
        record {
          sheet = w.0;
          listed = subst (λ n. w.0 < n) (sym rows_length) w.1;
          serves = ap (λ r. has r order) (row_at w.0 w.1) ∙ w.2;
        }),
    (λ s.
        let h = subst (λ n. s.sheet < n) rows_length s.listed in
        (any_decides (λ p. has (row file p) order) (sheets file)).1
        (s.sheet, h, sym (ap (λ r. has r order) (row_at s.sheet h)) ∙ s.serves)),
  )

  abbrev Parts : Type 0
  Parts = Each Holds (map in_file (file_checks file)) × ((k : ℕ) → k < sheets file → Each Holds (sheet_checks file k)) × ((k : ℕ) → k < orders file → Each Holds (order_checks file k))

  -- the checks of the file, of each sheet and of each order
  parts : Each Holds (checks file) → Parts
  parts h =
      let a = all_split Holds (map in_file (file_checks file)) (in_turn (sheet_checks file) 0 (sheets file) ++ in_turn (order_checks file) 0 (orders file)) h in
      let b = all_split Holds (in_turn (sheet_checks file) 0 (sheets file)) (in_turn (order_checks file) 0 (orders file)) a.1 in
      (a.0, turn_each (sheet_checks file) (sheets file) b.0, turn_each (order_checks file) (orders file) b.1)

  -- from the checks to the conditions
  module _ (all_hold : Each Holds (checks file)) where
    f : Each Holds (map in_file (file_checks file))
    f = (parts all_hold).0

    of_sheet : (k : ℕ) → k < sheets file → Each Holds (sheet_checks file k)
    of_sheet = (parts all_hold).1

    of_order : (k : ℕ) → k < orders file → Each Holds (order_checks file k)
    of_order = (parts all_hold).2

    -- the length of a label, and that it lies inside
    label_fits_lem : (k : ℕ) → k < orders file → (between 1 most_label_bytes (label_bytes file k) ≡ true) × (inside file (label_at file k) (label_bytes file k) ≡ true)
    label_fits_lem k h = and_parts (between 1 most_label_bytes (label_bytes file k)) (inside file (label_at file k) (label_bytes file k)) (of_order k h).1.1.0

    label_inside : (k : ℕ) → k < orders file → Inside file (label_at file k) (label_bytes file k)
    label_inside k h = (inside_decides file (label_at file k) (label_bytes file k)).0 (label_fits_lem k h).1

    layout_holds : Layout file
    layout_holds =
        record {
          header = leb-true header_bytes (length file) f.0;
          first_edition = eqb-true (edition file) 1 f.1.0;
          whole = eqb-true (stated_length file) (length file) f.1.1.0;
          rows_inside = (inside_decides file (rows_at file) (row_bytes * sheets file)).0 f.1.1.1.1.1.0;
          records_inside = (inside_decides file (records_at file) (record_bytes * orders file)).0 f.1.1.1.1.1.1.0;
          labels_inside = label_inside;
        }

    label_holds : (k : ℕ) → k < orders file → Label (label file k)
    label_holds k h =
        let size = label_length k (label_inside k h) in
        let range = (between_decides 1 most_label_bytes (label_bytes file k)).0 (label_fits_lem k h).0 in
        record {
          some_byte = omega (arith, size, range.0);
          few_bytes = omega (arith, size, range.1);
          printed = (printed_decides (label file k)).0 (of_order k h).1.1.1.0;
        }

    sound_holds : Sound (content file)
    sound_holds =
        let n = (between_decides 1 most_sheets (sheets file)).0 f.1.1.1.0 in
        let m = (between_decides 1 most_orders (orders file)).0 f.1.1.1.1.0 in
        record {
          some_sheet = omega (arith, rows_length, n.0);
          few_sheets = omega (arith, rows_length, n.1);
          some_order = omega (arith, labels_length, m.0);
          few_orders = omega (arith, labels_length, m.1);
          busy = all_counted Busy (row file) (sheets file) (λ k h. (busy_decides (row file k)).0 (of_sheet k h).0);
          known =
              subst (λ bound. Each (λ r. AllBelow r bound) (content file).rows) (sym labels_length)
              (all_counted (λ r. AllBelow r (orders file)) (row file) (sheets file)
              (λ k h. (below_decides (row file k) (orders file)).0 (of_sheet k h).1.0));
          served = λ order h. (served_decides order).0 (of_order order (subst (λ bound. order < bound) labels_length h)).0;
          in_time =
              subst (λ steps. Each (Due steps) (content file).dues) (sym rows_length)
              (all_counted (Due (sheets file)) (due file) (orders file) (λ k h. (due_decides file k (sheets file)).0 (of_order k h).1.0));
          labelled = all_counted Label (label file) (orders file) label_holds;
          distinct =
              λ i j before h.
              let j_in : j < orders file = omega (arith, labels_length) in
              λ same.
              (distinct_decides file j).0 (of_order j j_in).1.1.1.1.0 i before
              (sym (label_at_lem i (omega arith)) ∙ (same ∙ label_at_lem j j_in));
        }

  -- from the conditions to the checks
  module _ (w : WellFormed file) where
    back_sheet : (k : ℕ) → k < sheets file → Each Holds (sheet_checks file k)
    back_sheet k h = (
      (busy_decides (row file k)).1 (each_counted Busy (row file) (sheets file) w.sound.busy k h),
      (
        (below_decides (row file k) (orders file)).1
            (each_counted (λ r. AllBelow r (orders file)) (row file) (sheets file)
            (subst (λ bound. Each (λ r. AllBelow r bound) (content file).rows) labels_length w.sound.known) k h),
        tt,
      ),
    )

    back_order : (k : ℕ) → k < orders file → Each Holds (order_checks file k)
    back_order k h =
        let listed = subst (λ bound. k < bound) (sym labels_length) h in
        let good = each_counted Label (label file) (orders file) w.sound.labelled k h in
        let within = w.layout.labels_inside k h in
        let size = label_length k within in (
          (served_decides k).1 (w.sound.served k listed),
          (
            (due_decides file k (sheets file)).1
                (each_counted (Due (sheets file)) (due file) (orders file)
                (subst (λ steps. Each (Due steps) (content file).dues) rows_length w.sound.in_time) k h),
            (
              and_from (between 1 most_label_bytes (label_bytes file k)) (inside file (label_at file k) (label_bytes file k))
                  ((between_decides 1 most_label_bytes (label_bytes file k)).1
                  (omega (arith, size, good.some_byte), omega (arith, size, good.few_bytes)))
                  ((inside_decides file (label_at file k) (label_bytes file k)).1 within),
              (
                (printed_decides (label file k)).1 good.printed,
                (
                  (distinct_decides file k).1
                      (λ i before same. w.sound.distinct i k before listed (label_at_lem i (omega arith) ∙ (same ∙ sym (label_at_lem k h)))),
                  tt,
                ),
              ),
            ),
          ),
        )

    back_file : Each Holds (map in_file (file_checks file))
    back_file =
        let n = (between_decides 1 most_sheets (sheets file)).1 (omega (arith, rows_length, w.sound.some_sheet), omega (arith, rows_length, w.sound.few_sheets)) in
        let m = (between_decides 1 most_orders (orders file)).1 (omega (arith, labels_length, w.sound.some_order), omega (arith, labels_length, w.sound.few_orders)) in (
          le-leb header_bytes (length file) w.layout.header,
          (
            eq-eqb (edition file) 1 w.layout.first_edition,
            (
              eq-eqb (stated_length file) (length file) w.layout.whole,
              (
                n,
                (
                  m,
                  (
                    (inside_decides file (rows_at file) (row_bytes * sheets file)).1 w.layout.rows_inside,
                    (
                      (inside_decides file (records_at file) (record_bytes * orders file)).1 w.layout.records_inside,
                      tt,
                    ),
                  ),
                ),
              ),
            ),
          ),
        )

  pub well_formed : verdict (checks file) ≡ Ok tt → WellFormed file
  well_formed passed =
      let all_hold = verdict_holds (checks file) passed in
      record { layout = layout_holds all_hold; sound = sound_holds all_hold }

  -- a due step of an accepted file is one of its steps, of which there are at most 16
  pub due_small : verdict (checks file) ≡ Ok tt → (k : ℕ) → k < orders file → due_step file k ≤ most_sheets
  due_small passed k h =
      let all_hold = verdict_holds (checks file) passed in
      omega (
        arith,
        leb-true (due_step file k) (sheets file) (of_order all_hold k h).1.0,
        ((between_decides 1 most_sheets (sheets file)).0 (f all_hold).1.1.1.0).1,
      )

  pub passes : WellFormed file → verdict (checks file) ≡ Ok tt
  passes w =
      holds_verdict (checks file)
      (All-append Holds (map in_file (file_checks file)) (in_turn (sheet_checks file) 0 (sheets file) ++ in_turn (order_checks file) 0 (orders file))
      (back_file w)
      (All-append Holds (in_turn (sheet_checks file) 0 (sheets file)) (in_turn (order_checks file) 0 (orders file))
      (each_turn (sheet_checks file) (sheets file) (back_sheet w))
      (each_turn (order_checks file) (orders file) (back_order w))))
