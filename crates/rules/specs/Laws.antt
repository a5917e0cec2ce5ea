-- What every rule owes, of Open, Due and Limit.
use Rattle.std.specs.Prelude.{◌≡◌, ℕ, ◌^◌, ◌≤◌, Bool, true, false, cond, not, ◌&&◌, length, Some, None, Option, bit_and, count_ones, nat_le, nat_lt}
use Rattle.std.proofs.Common.{ap, arith}
use Rattle.std.proofs.lemmas.Nat.{and_le_r, ones-le}
use Rattle.rules.specs.declared.due.Due.{Due}
use Rattle.rules.specs.declared.stacks.Open.{Open}
use Rattle.rules.specs.DueSets.{overdue_figure}
use Rattle.rules.specs.Meanings.{due_asks, due_count, open_asks, open_count}
use Rattle.sets.specs.declared.rows.Rows.{Rows}
use Rattle.sets.specs.Bits.{has, with}
use Rattle.sets.specs.Reach.{reach}
use Rattle.sets.specs.RowLists.{rows_of}
use Rattle.sets.proofs.Room.{few_rows, reach_in_room, some_rows}
use Rattle.sequences.specs.Steps.{Keeps, Meaning, most_figure}
use Rattle.sequences.specs.StepRules.{at_most, is_next, limit, open_figure, stepping, undone}
use Rattle.std.proofs.lemmas.Bool.{and_left, and_right, cond-false, le-ltb, not_from_true}

figure_from : (b : Bool) (g f : ℕ) → cond b (Some g) None ≡ Some f → g ≡ f
figure_from true g f e = cc
figure_from false g f e = cc

-- a figure for every sheet that can come next, and none otherwise
module _ (n : ℕ) (figure : ℕ → ℕ → ℕ) where
  forbidden : (S p : ℕ) → is_next n S p ≡ false → stepping n figure S p ≡ None
  forbidden S p e = cond-false (is_next n S p) (Some (figure S p)) None e

  stepping_keeps : 1 ≤ n → n ≤ 16 → ((S p : ℕ) → figure S p ≤ most_figure) → Keeps n (stepping n figure)
  stepping_keeps some few small =
      record {
        some_sheet = some;
        few_sheets = few;
        figures = λ S p f e. omega (arith, small S p, figure_from (is_next n S p) (figure S p) f e);
        no_sheet = λ S p h. forbidden S p (and_left (nat_lt p n) (not (has S p) && nat_lt S (2 ^ n)) (le-ltb p n h));
        no_repeat =
            λ S p e.
            forbidden S p
            (and_right (nat_lt p n) (not (has S p) && nat_lt S (2 ^ n))
            (and_left (not (has S p)) (nat_lt S (2 ^ n)) (not_from_true (has S p) e)));
        no_stranger =
            λ S p h.
            forbidden S p
            (and_right (nat_lt p n) (not (has S p) && nat_lt S (2 ^ n))
            (and_right (not (has S p)) (nat_lt S (2 ^ n)) (le-ltb S (2 ^ n) h)));
      }

-- a figure counts orders in a reach, and there are at most 64
counted_small : (rows : Rows) (orders S : ℕ) → count_ones (bit_and orders (reach (rows_of rows) S)) ≤ most_figure
counted_small rows orders S =
    omega (
      arith,
      ones-le 64 (bit_and orders (reach (rows_of rows) S))
          (omega (arith, and_le_r orders (reach (rows_of rows) S), reach_in_room rows S)),
    )

pub open_keeps : (r : Open) → Keeps (open_count r) (open_asks r)
open_keeps r =
    let rows = rows_of r.rows in
    stepping_keeps (length rows) (open_figure rows) (some_rows r.rows) (few_rows r.rows)
    (λ S p. counted_small r.rows (reach rows (with S p)) (undone (length rows) S))

pub due_keeps : (r : Due) → Keeps (due_count r) (due_asks r)
due_keeps r =
    let rows = rows_of r.rows in
    stepping_keeps (length rows) (overdue_figure rows r.overdue) (some_rows r.rows) (few_rows r.rows)
    (λ S p. counted_small r.rows _ (undone (length rows) S))

passed : (k : ℕ) (o : Option ℕ) (f : ℕ) → at_most k o ≡ Some f → o ≡ Some f
passed k None f e = e
passed k (Some g) f e = ap Some (figure_from (nat_le g k) g f e)

pub limit_keeps : (n k : ℕ) (rule : Meaning) → Keeps n rule → Keeps n (limit k rule)
limit_keeps n k rule kept =
    record {
      some_sheet = kept.some_sheet;
      few_sheets = kept.few_sheets;
      figures = λ S p f e. kept.figures S p f (passed k (rule S p) f e);
      no_sheet = λ S p h. ap (at_most k) (kept.no_sheet S p h);
      no_repeat = λ S p e. ap (at_most k) (kept.no_repeat S p e);
      no_stranger = λ S p h. ap (at_most k) (kept.no_stranger S p h);
    }
