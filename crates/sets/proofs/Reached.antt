-- An order is in the reach of a set exactly when some sheet of the set serves it.
use Rattle.std.proofs.Common.{◌≡◌, ℕ, zero, suc, ◌+◌, ◌^◌, ◌<◌, Bool, true, false, cond, ◌&&◌, ◌||◌, List, length, get_or, Decides, sym, refl, ap, ◌∙◌, add-one, arith}
use mathlib.Core.Bool.{or_comm}
use lib.Bits.{bit_or, or_lt, or_zero_r}
use Rattle.std.proofs.lemmas.Bool.{cond-true, cond-false}
use Rattle.std.proofs.lemmas.Bool.Decides.{Decides-and, Decides-below_or}
use Rattle.sets.specs.Bits.{has}
use Rattle.sets.specs.Reach.{reach, reach_below, Serves}
use Rattle.sets.proofs.Bits.{has_high, has-or}

-- what a row adds, where its sheet is in the set or not
has_added : (b : Bool) (row j : ℕ) → has (cond b row 0) j ≡ (b && has row j)
has_added true row j = refl
has_added false row j = has_high 0 j 0 (omega arith) (omega arith)

module _ (rows : List ℕ) (S j : ℕ) where
  abbrev serving : ℕ → Bool
  serving k = has S k && has (get_or rows k 0) j

  abbrev Serving : ℕ → Type 0
  Serving k = (has S k ≡ true) × (has (get_or rows k 0) j ≡ true)

  step : (k : ℕ) → has (reach_below rows S (suc k)) j ≡ (serving k || has (reach_below rows S k) j)
  step k =
      has-or (reach_below rows S k) (cond (has S k) (get_or rows k 0) 0) j
      ∙ (or_comm (has (reach_below rows S k) j) (has (cond (has S k) (get_or rows k 0) 0) j)
      ∙ ap (λ b. b || has (reach_below rows S k) j) (has_added (has S k) (get_or rows k 0) j))

  below : (k : ℕ) → Decides (has (reach_below rows S k) j) ((p : ℕ) × (p < k) × Serving p)
  below =
      Decides-below_or serving Serving (λ k. has (reach_below rows S k) j)
      (λ k. Decides-and (has S k) (has (get_or rows k 0) j) ((λ e. e), (λ e. e)) ((λ e. e), (λ e. e)))
      (has_high 0 j 0 (omega arith) (omega arith)) step

  pub reach_serves : Decides (has (reach rows S) j) (Serves rows S j)
  reach_serves = (
    (λ e.
        let s = (below (length rows)).0 e in
        record { sheet = s.0; listed = s.1; chosen = s.2.0; serves = s.2.1 }),
    (λ s. (below (length rows)).1 (s.sheet, s.listed, (s.chosen, s.serves))),
  )

-- no reach has an order that no row has
pub reach_below_lem : (rows : List ℕ) (m S : ℕ) → ((p : ℕ) → get_or rows p 0 < 2 ^ m) → reach rows S < 2 ^ m
reach_below_lem rows m S h = from (length rows)
  where
    added : (b : Bool) (row : ℕ) → row < 2 ^ m → cond b row 0 < 2 ^ m
    added true row l = l
    added false row l = omega arith

    from : (k : ℕ) → reach_below rows S k < 2 ^ m
    from zero = let l = h 0 in omega arith
    from (suc k) =
        or_lt m (reach_below rows S k) (cond (has S k) (get_or rows k 0) 0) (from k) (added (has S k) (get_or rows k 0) (h k))

-- one sheet more in the loop: its row is taken in, or passed over
pub reach_taken : (rows : List ℕ) (S k : ℕ) → has S k ≡ true
    → bit_or (reach_below rows S k) (get_or rows k 0) ≡ reach_below rows S (k + 1)
reach_taken rows S k on =
    ap (bit_or (reach_below rows S k)) (sym (cond-true (has S k) (get_or rows k 0) 0 on)) ∙ ap (reach_below rows S) (sym (add-one k))

pub reach_passed : (rows : List ℕ) (S k : ℕ) → has S k ≡ false → reach_below rows S k ≡ reach_below rows S (k + 1)
reach_passed rows S k off =
    sym (or_zero_r (reach_below rows S k))
    ∙ (ap (bit_or (reach_below rows S k)) (sym (cond-false (has S k) (get_or rows k 0) 0 off)) ∙ ap (reach_below rows S) (sym (add-one k)))
