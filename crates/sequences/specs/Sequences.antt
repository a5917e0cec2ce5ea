-- Sequences of sheets.
use Rattle.std.specs.Prelude.{◌≡◌, ℕ, ◌<◌, Bool, ◌&&◌, List, count_by, nat_eq, nat_lt}
use Rattle.std.specs.List.{range_with_len, list_all, AllByRecursion as Each}

-- how often s names the sheet p
abbrev pub times : List ℕ → ℕ → ℕ
times s p = count_by (nat_eq p) s

-- s names each of the sheets 0 to n - 1 exactly once, and nothing else
pub record Sequence (n : ℕ) (s : List ℕ) : Type 0 where
  pub sheets : Each (λ p. p < n) s
  pub once : (p : ℕ) → p < n → times s p ≡ 1

-- the same as a test
abbrev pub is_sequence : ℕ → List ℕ → Bool
is_sequence n s = list_all (λ p. nat_lt p n) s && list_all (λ p. nat_eq (times s p) 1) (range_with_len 0 n)
