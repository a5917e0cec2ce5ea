-- The permitted sequences can be listed, and every list of them has the same join.
use Rattle.std.proofs.Common.{◌≡◌, ℕ, true, ◌&&◌, List, [], ◌∷◌, ◌++◌, Some, None, Option, sym, refl, ap, ◌∙◌, subst, inl, inr, ⊎_elim}
use Rattle.std.proofs.lemmas.Bool.{and_from, and_parts}
use Rattle.sequences.specs.Joins.{AllPermitted, OneJoin, join_of, join_some, lists_of, permitted_of}
use Rattle.sequences.specs.Sequences.{is_sequence}
use Rattle.sequences.specs.Steps.{Meaning, permits}
use Rattle.sequences.specs.Values.{Lawful, Ops, value}
use Rattle.sequences.proofs.AllLists.{in_lists, lists_distinct}
use Rattle.sequences.proofs.DoneSets.{sequence_length}
use Rattle.sequences.proofs.Listings.{Distinct, In, apart_from_distinct, distinct_from_apart, distinct_out, has_from_in, in_back, in_from_has, in_kept, in_out, kept_distinct, kept_in, split}
use Rattle.sequences.proofs.Naming.{is_sequence_lem}

module _ (n : ℕ) (rule : Meaning) where
  passes : (s : List ℕ) → In s (permitted_of n rule) → (is_sequence n s ≡ true) × (permits rule s ≡ true)
  passes s r = and_parts (is_sequence n s) (permits rule s) (in_kept (λ t. is_sequence n t && permits rule t) s (lists_of n n) r).1

  pub listing : AllPermitted n rule (permitted_of n rule)
  listing =
      record {
        listed = λ s is allowed.
            has_from_in (permitted_of n rule) s
            (kept_in (λ t. is_sequence n t && permits rule t) s (lists_of n n)
            (subst (λ k. In s (lists_of n k)) (sequence_length n s is) (in_lists n s is.sheets))
            (and_from (is_sequence n s) (permits rule s) ((is_sequence_lem n s).1 is) allowed));
        sequences = λ s h. (is_sequence_lem n s).0 (passes s (in_from_has (permitted_of n rule) s h)).0;
        permitted = λ s h. (passes s (in_from_has (permitted_of n rule) s h)).1;
        apart =
            apart_from_distinct (permitted_of n rule) []
            (kept_distinct (λ t. is_sequence n t && permits rule t) (lists_of n n) (lists_distinct n n));
      }

module _ {M : Type 0} (o : Ops M) (lawful : Lawful o) (rule : Meaning) where
  swapped : (u v w : Option M) → join_some o u (join_some o v w) ≡ join_some o v (join_some o u w)
  swapped None v w = refl
  swapped (Some u) None w = refl
  swapped (Some u) (Some v) None = ap Some (lawful.comm u v)
  swapped (Some u) (Some v) (Some w) =
      ap Some (sym (lawful.assoc u v w) ∙ (ap (λ x. o.join x w) (lawful.comm u v) ∙ lawful.assoc v u w))

  -- a sequence may be taken first
  taken_first : (s : List ℕ) (before after : List (List ℕ))
      → join_of o rule (before ++ s ∷ after) ≡ join_some o (value o rule s) (join_of o rule (before ++ after))
  taken_first s [] after = refl
  taken_first s (b ∷ before) after =
      ap (join_some o (value o rule b)) (taken_first s before after)
      ∙ swapped (value o rule b) (value o rule s) (join_of o rule (before ++ after))

  same_members : (L K : List (List ℕ)) → Distinct L → Distinct K → ((s : List ℕ) → In s L → In s K) → ((s : List ℕ) → In s K → In s L)
      → join_of o rule L ≡ join_of o rule K
  same_members [] [] h k there back = refl
  same_members [] (x ∷ K) h k there back = absurd (back x (inl refl))
  same_members (s ∷ L) K h k there back =
      let parts = split s K (there s (inl refl)) in
      let before = parts.0 in
      let after = parts.1 in
      let out = distinct_out s before after (subst Distinct (sym parts.2) k) in
      ap (join_some o (value o rule s))
      (same_members L (before ++ after) h.1 out.1
      (λ t r. ⊎_elim (λ e. absurd (h.0 (subst (λ y. In y L) e r))) (λ q. q) (in_out t s before after (subst (In t) (sym parts.2) (there t (inr r)))))
      (λ t r. ⊎_elim (λ e. absurd (out.0 (subst (λ y. In y (before ++ after)) e r))) (λ q. q) (back t (subst (In t) parts.2 (in_back t s before after r)))))
      ∙ (sym (taken_first s before after) ∙ ap (join_of o rule) parts.2)

  pub one_join : (n : ℕ) → OneJoin o n rule
  one_join n = record { listing = listing n rule; same = λ L all. agree L (permitted_of n rule) all (listing n rule) }
    where
      agree : (L K : List (List ℕ)) → AllPermitted n rule L → AllPermitted n rule K → join_of o rule L ≡ join_of o rule K
      agree L K a b =
          same_members L K (distinct_from_apart L [] a.apart) (distinct_from_apart K [] b.apart) (across L K a b) (across K L b a)
        where
          across : (L K : List (List ℕ)) → AllPermitted n rule L → AllPermitted n rule K → (s : List ℕ) → In s L → In s K
          across L K a b s r =
              let h = has_from_in L s r in
              in_from_has K s (b.listed s (a.sequences s h) (a.permitted s h))
