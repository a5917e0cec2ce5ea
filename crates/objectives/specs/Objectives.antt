-- The four objectives: peak, total, best and count.
use Rattle.std.specs.Prelude.{ℕ, ◌+◌, ◌%◌, ◌^◌, min, max, cond, nat_lt}
use Rattle.sequences.specs.Values.{Ops}

-- the highest cost: a sum that would reach it is cut off there
abbrev pub dearest : ℕ
dearest = 4294967295

-- counts are taken modulo this
abbrev pub count_modulus : ℕ
count_modulus = 2 ^ 64

-- the cost and the figure added; a sum of `dearest` or more becomes `dearest`
abbrev pub add_cost : ℕ → ℕ → ℕ
add_cost cost figure = cond (nat_lt (cost + figure) dearest) (cost + figure) dearest

abbrev pub add_counts : ℕ → ℕ → ℕ
add_counts n k = (n + k) % count_modulus

-- costs that begin at 0: extend raises them, join takes the smaller
abbrev pub cost_ops : (ℕ → ℕ → ℕ) → Ops ℕ
cost_ops raised = record { start = 0; extend = raised; join = min }

-- extend takes the larger
abbrev pub peak_ops : Ops ℕ
peak_ops = cost_ops max

-- extend adds
abbrev pub total_ops : Ops ℕ
total_ops = cost_ops add_cost

-- extend changes nothing, join adds
abbrev pub count_ops : Ops ℕ
count_ops = record { start = 1; extend = λ n _. n; join = add_counts }

-- a cost, and how often it was met
pub record Costed : Type 0 where
  pub cost : ℕ
  pub count : ℕ

-- a cost that reaches `dearest` has count 0
abbrev pub counted : ℕ → ℕ → Costed
counted cost count = record { cost = cost; count = cond (nat_lt cost dearest) count 0 }

-- extend adds to the cost
abbrev pub extend_best : Costed → ℕ → Costed
extend_best v figure = counted (add_cost v.cost figure) v.count

-- the lesser cost with its count; equal costs add counts
abbrev pub join_best : Costed → Costed → Costed
join_best v w =
    cond (nat_lt v.cost w.cost) v
    (cond (nat_lt w.cost v.cost) w
    (record { cost = v.cost; count = add_counts v.count w.count }))

abbrev pub best_ops : Ops Costed
best_ops = record { start = record { cost = 0; count = 1 }; extend = extend_best; join = join_best }
