-- A set of numbers as one number: bit p says whether p is in the set.
use Rattle.std.specs.Prelude.{◌≡◌, ℕ, ◌+◌, ◌-◌, ◌/◌, ◌%◌, ◌^◌, ◌≤◌, Bool, false, cond, ◌==◌, nat_lt}

-- bit p of the number S
abbrev pub has : ℕ → ℕ → Bool
has S p = S / 2 ^ p % 2 == 1

-- the set S and p
abbrev pub with : ℕ → ℕ → ℕ
with S p = cond (has S p) S (S + 2 ^ p)

-- the set S and p, where numbers below the room can be in a set
abbrev pub with_in : ℕ → ℕ → ℕ → ℕ
with_in room S p = cond (nat_lt p room) (with S p) S

-- the set S but p
abbrev pub without : ℕ → ℕ → ℕ
without S p = cond (has S p) (S - 2 ^ p) S

-- every member of S is below the bound
abbrev pub AllBelow : ℕ → ℕ → Type 0
AllBelow S bound = (p : ℕ) → bound ≤ p → has S p ≡ false

-- S has no member
abbrev pub Empty : ℕ → Type 0
Empty S = (p : ℕ) → has S p ≡ false
