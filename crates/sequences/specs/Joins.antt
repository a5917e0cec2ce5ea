-- The join of the values of all permitted sequences, each taken once.
use Rattle.std.specs.Prelude.{◌≡◌, ℕ, zero, suc, ◌<◌, true, ◌&&◌, List, [], ◌∷◌, map, length, Some, None, filter, Option, ◌≢◌, slice_index_or}
use Rattle.sequences.specs.Sequences.{Sequence, is_sequence}
use Rattle.sequences.specs.Steps.{Meaning, permits}
use Rattle.sequences.specs.Values.{Ops, value}
use Rattle.std.specs.List.{range_with_len, ContainsAt as Has, flat_map}

-- two values joined, either of which may be missing
abbrev pub join_some : {M : Type 0} → Ops M → Option M → Option M → Option M
join_some o None w = w
join_some o (Some v) None = Some v
join_some o (Some v) (Some w) = Some (o.join v w)

-- the values of the listed sequences, joined in turn; none where nothing is listed
abbrev pub join_of : {M : Type 0} → Ops M → Meaning → List (List ℕ) → Option M
join_of o rule [] = None
join_of o rule (s ∷ L) = join_some o (value o rule s) (join_of o rule L)

-- L lists the permitted sequences of n sheets: all of them, nothing else, and none twice
pub record AllPermitted (n : ℕ) (rule : Meaning) (L : List (List ℕ)) : Type 0 where
  pub listed : (s : List ℕ) → Sequence n s → permits rule s ≡ true → Has L s
  pub sequences : (s : List ℕ) → Has L s → Sequence n s
  pub permitted : (s : List ℕ) → Has L s → permits rule s ≡ true
  pub apart : (i j : ℕ) → i < j → j < length L → slice_index_or L i [] ≢ slice_index_or L j []

-- v is the join of the values of all permitted sequences, each taken once; none where no sequence is permitted
abbrev pub JoinOfAll : {M : Type 0} → Ops M → ℕ → Meaning → Option M → Type 0
JoinOfAll o n rule v = (L : List (List ℕ)) → AllPermitted n rule L → join_of o rule L ≡ v

-- all lists of k sheets below n
abbrev pub lists_of : ℕ → ℕ → List (List ℕ)
lists_of n zero = [] ∷ []
lists_of n (suc k) = flat_map (λ p. map (λ s. p ∷ s) (lists_of n k)) (range_with_len 0 n)

-- those of them that are permitted sequences
abbrev pub permitted_of : ℕ → Meaning → List (List ℕ)
permitted_of n rule = filter (λ s. is_sequence n s && permits rule s) (lists_of n n)

-- the permitted sequences can be listed, and every such list has the same join
pub record OneJoin {M : Type 0} (o : Ops M) (n : ℕ) (rule : Meaning) : Type 0 where
  pub listing : AllPermitted n rule (permitted_of n rule)
  pub same : JoinOfAll o n rule (join_of o rule (permitted_of n rule))
