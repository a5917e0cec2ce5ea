-- Sums and counts over lists: two sums exchanged, an interval counted, and each number of a list counted once.
use Rattle.std.proofs.Common.{◌≡◌, ℕ, zero, suc, ◌+◌, ◌-◌, ◌<◌, min, max, cond, ◌&&◌, eqb, leb, List, [], ◌∷◌, ◌++◌, length, get_or, sum_by, count_by, sym, refl, ap, ◌∙◌, subst, ap₂, arith}
use Rattle.std.proofs.lemmas.List.FromFn.{get_or-range_with_len, length-range_with_len}
use Rattle.std.proofs.ByRecursion.{All-from_get_or, All-weaker}
use Rattle.std.proofs.lemmas.List.Sums.{sum_by-cons}
use Rattle.std.proofs.lemmas.Bool.Decides.{nat_tests}
use Rattle.std.specs.List.{range_with_len, AllByRecursion as Each}

-- what holds of everything holds of each element
pub always : {X : Type 0} {P : X → Type 0} → ((x : X) → P x) → (xs : List X) → Each P xs
always h [] = tt
always h (x ∷ xs) = (h x, always h xs)

-- like terms have like sums
pub sum_like : {X : Type 0} (f g : X → ℕ) (xs : List X) → Each (λ x. f x ≡ g x) xs → sum_by f xs ≡ sum_by g xs
sum_like f g [] h = refl
sum_like f g (x ∷ xs) h =
    sum_by-cons f x xs ∙ (ap₂ (λ a b. a + b) h.0 (sum_like f g xs h.1) ∙ sym (sum_by-cons g x xs))

pub sum_zero : {X : Type 0} (xs : List X) → sum_by (λ _. 0) xs ≡ 0
sum_zero [] = refl
sum_zero (x ∷ xs) = omega (arith, sum_by-cons (λ _. 0) x xs, sum_zero xs)

pub sum_one : {X : Type 0} (xs : List X) → sum_by (λ _. 1) xs ≡ length xs
sum_one [] = refl
sum_one (x ∷ xs) = omega (arith, sum_by-cons (λ _. 1) x xs, sum_one xs)

pub sum-add : {X : Type 0} (f g : X → ℕ) (xs : List X) → sum_by (λ x. f x + g x) xs ≡ sum_by f xs + sum_by g xs
sum-add f g [] = refl
sum-add f g (x ∷ xs) =
    let a = sum_by-cons f x xs in
    let b = sum_by-cons g x xs in
    let c = sum_by-cons (λ y. f y + g y) x xs in
    let d = sum-add f g xs in
    omega (arith, a, b, c, d)

-- a table is summed by rows or by columns
pub sum_swap : {X Y : Type 0} (f : X → Y → ℕ) (xs : List X) (ys : List Y)
    → sum_by (λ x. sum_by (f x) ys) xs ≡ sum_by (λ y. sum_by (λ x. f x y) xs) ys
sum_swap f [] ys = sym (sum_zero ys)
sum_swap f (x ∷ xs) ys =
    sum_by-cons (λ x. sum_by (f x) ys) x xs
    ∙ (ap (λ a. sum_by (f x) ys + a) (sum_swap f xs ys)
    ∙ (sym (sum-add (f x) (λ y. sum_by (λ x. f x y) xs) ys)
    ∙ sum_like (λ y. f x y + sum_by (λ x. f x y) xs) (λ y. sum_by (λ x. f x y) (x ∷ xs)) ys (always (λ y. sym (sum_by-cons (λ x. f x y) x xs)) ys)))

-- how many of the numbers from c on, so many of them, lie from a to b
pub interval : (a b L c : ℕ) → count_by (λ t. leb a t && leb t b) (range_with_len c L) ≡ min (b + 1) (c + L) - max a c
interval a b zero c = omega arith
interval a b (suc L) c =
    sum_by-cons (λ t. cond (leb a t && leb t b) 1 0) c (range_with_len (c + 1) L)
    ∙ (ap (λ x. cond (leb a c && leb c b) 1 0 + x) (interval a b L (c + 1)) ∙ one_more a b L c)
  where
    one_more : (a b L c : ℕ)
        → cond (leb a c && leb c b) 1 0 + (min (b + 1) (c + 1 + L) - max a (c + 1)) ≡ min (b + 1) (c + suc L) - max a c
    one_more a b L c = grind (arith, nat_tests)

-- what holds of each number below n holds of all that are counted
pub each_below : {P : ℕ → Type 0} (n : ℕ) → ((q : ℕ) → q < n → P q) → Each P (range_with_len 0 n)
each_below {P} n h =
    All-from_get_or P (range_with_len 0 n) 0 (λ i l.
    let small : i < n = omega (arith, length-range_with_len 0 n) in
    subst P (let e : i ≡ get_or (range_with_len 0 n) i 0 = omega (arith, get_or-range_with_len 0 n i 0 small) in e) (h i small))

pub all_parts : {X : Type 0} (P : X → Type 0) (xs ys : List X) → Each P (xs ++ ys) → Each P xs × Each P ys
all_parts P [] ys h = (tt, h)
all_parts P (x ∷ xs) ys h = let r = all_parts P xs ys h.1 in ((h.0, r.0), r.1)

-- one number is counted once
one_counted : (n x : ℕ) → x < n → count_by (λ q. eqb q x) (range_with_len 0 n) ≡ 1
one_counted n x l =
    sum_like (λ q. cond (eqb q x) 1 0) (λ q. cond (leb x q && leb q x) 1 0) (range_with_len 0 n) (always same (range_with_len 0 n))
    ∙ (interval x x n 0 ∙ omega arith)
  where
    same : (q : ℕ) → ◌≡◌ {A = ℕ} (cond (eqb q x) 1 0) (cond (leb x q && leb q x) 1 0)
    same q = grind (arith, nat_tests)

-- over the numbers below n, how often each is listed adds up to the length of the list
pub counted_once : (n : ℕ) (xs : List ℕ) → Each (λ x. x < n) xs → sum_by (λ q. count_by (eqb q) xs) (range_with_len 0 n) ≡ length xs
counted_once n xs h =
    sum_swap (λ q x. cond (eqb q x) 1 0) (range_with_len 0 n) xs
    ∙ (sum_like (λ x. count_by (λ q. eqb q x) (range_with_len 0 n)) (λ _. 1) xs (All-weaker (λ x. x < n) (λ x. count_by (λ q. eqb q x) (range_with_len 0 n) ≡ 1) (one_counted n) xs h)
    ∙ sum_one xs)
