-- Aliases that are chained from the last one on.
use Rattle.std.proofs.Common.{◌≡◌, ◌≢◌, ◌∙◌, sym, ap, refl, ℕ, suc, ◌+◌, ◌<◌, ◌≤◌, ◌==◌, cond, List, [], ◌∷◌, length, drop, get_or, Option, Some, None, option_map, replicate, arith, drop-cons, ◌⊎◌, inl, inr}
use Rattle.std.specs.Prelude.{slice_set}
use Rattle.std.specs.List.{position_from}
use Rattle.std.proofs.lemmas.Bool.{cases_eq, eq-eqb, ne_eqb}
use Rattle.std.proofs.lemmas.List.{length-set, get_or_default, get_or-set_same, get_or-set_other, get_or-replicate, length-replicate}
use Rattle.insn_tree.specs.declared.leaf_id.AliasId.{AliasId}
use Rattle.insn_tree.specs.Chains.{next_from, number_at}

-- with one more alias, from the last on
next-step : (leaves : List ℕ) (l i : ℕ) → i < length leaves → next_from leaves l i ≡ cond (get_or leaves i 0 == l) (Some i) (next_from leaves l (i + 1))
next-step leaves l i below =
    let more : suc i ≡ i + 1 = omega arith in
    ap (position_from (λ k. k == l) i) (drop-cons leaves i 0 below) ∙ ap (λ n. cond (get_or leaves i 0 == l) (Some i) (position_from (λ k. k == l) (i + 1) (drop n leaves))) more

-- those from alias a on are chained
pub record AreChained (leaves : List ℕ) (count : ℕ) (firsts nexts : List (Option AliasId)) (a : ℕ) : Type 0 where
  pub as_leaves : length firsts ≡ count
  pub as_aliases : length nexts ≡ length leaves
  pub firsts_are : (l : ℕ) → l < count → number_at firsts l ≡ next_from leaves l a
  pub nexts_are : (b : ℕ) → a ≤ b → b < length leaves → number_at nexts b ≡ next_from leaves (get_or leaves b 0) (b + 1)

drop_whole : (xs : List ℕ) → drop (length xs) xs ≡ []
drop_whole [] = refl
drop_whole (x ∷ xs) = drop_whole xs

-- before any
pub chained_none : (leaves : List ℕ) (count : ℕ) (firsts nexts : List (Option AliasId)) → firsts ≡ replicate count None → nexts ≡ replicate (length leaves) None → AreChained leaves count firsts nexts (length leaves)
chained_none leaves count firsts nexts f n = record {
  as_leaves = ap (λ (os : List (Option AliasId)). length os) f ∙ length-replicate count None;
  as_aliases = ap (λ (os : List (Option AliasId)). length os) n ∙ length-replicate (length leaves) None;
  firsts_are = λ l below.
      ap (λ (os : List (Option AliasId)). number_at os l) f
      ∙ ap (option_map (λ (a : AliasId). a.0)) (get_or-replicate count l None None below)
      ∙ sym (ap (position_from (λ k. k == l) (length leaves)) (drop_whole leaves));
  nexts_are = λ b from below. absurd (omega (arith, from, below));
}

-- one more, from the last on
pub chained_more : (leaves : List ℕ) (count : ℕ) (firsts nexts : List (Option AliasId)) (i l : ℕ) (first : Option AliasId) (alias : AliasId) → i < length leaves → l < count → l ≡ get_or leaves i 0 → first ≡ get_or firsts l first → alias.0 ≡ i
    → AreChained leaves count firsts nexts (i + 1) → AreChained leaves count (slice_set firsts l (Some alias)) (slice_set nexts i first) i
chained_more leaves count firsts nexts i l first alias below low is at number h = record {
  as_leaves = length-set firsts l (Some alias) ∙ h.as_leaves;
  as_aliases = length-set nexts i first ∙ h.as_aliases;
  firsts_are = λ k within. first_of k within (cases_eq k l);
  nexts_are = λ b from within. next_of b from within (cases_eq b i);
}
  where
    first_of : (k : ℕ) → k < count → (k ≡ l) ⊎ (k ≢ l) → number_at (slice_set firsts l (Some alias)) k ≡ next_from leaves k i
    first_of k within (inl same) =
        ap (number_at (slice_set firsts l (Some alias))) same
        ∙ ap (option_map (λ (a : AliasId). a.0)) (get_or-set_same firsts l (Some alias) None (omega (arith, low, h.as_leaves)))
        ∙ ap (λ n. Some n) number
        ∙ sym (next-step leaves k i below ∙ ap (λ b. cond b (Some i) (next_from leaves k (i + 1))) (eq-eqb (get_or leaves i 0) k (sym is ∙ sym same)))
    first_of k within (inr apart) =
        ap (option_map (λ (a : AliasId). a.0)) (get_or-set_other firsts l k (Some alias) None apart)
        ∙ h.firsts_are k within
        ∙ sym (next-step leaves k i below ∙ ap (λ b. cond b (Some i) (next_from leaves k (i + 1))) (ne_eqb (get_or leaves i 0) k (λ e. apart (sym e ∙ sym is))))

    kept : option_map (λ a. a.0) first ≡ next_from leaves l (i + 1)
    kept = ap (option_map (λ (a : AliasId). a.0)) (at ∙ get_or_default firsts l first None (omega (arith, low, h.as_leaves))) ∙ h.firsts_are l low

    next_of : (b : ℕ) → i ≤ b → b < length leaves → (b ≡ i) ⊎ (b ≢ i) → number_at (slice_set nexts i first) b ≡ next_from leaves (get_or leaves b 0) (b + 1)
    next_of b from within (inl same) =
        ap (number_at (slice_set nexts i first)) same
        ∙ ap (option_map (λ (a : AliasId). a.0)) (get_or-set_same nexts i first None (omega (arith, below, h.as_aliases)))
        ∙ kept
        ∙ ap (λ k. next_from leaves k (i + 1)) is
        ∙ ap (λ j. next_from leaves (get_or leaves j 0) (j + 1)) (sym same)
    next_of b from within (inr apart) =
        let further : i + 1 ≤ b = go (cases_eq i b) in
        ap (option_map (λ (a : AliasId). a.0)) (get_or-set_other nexts i b first None apart) ∙ h.nexts_are b further within
      where
        go : (i ≡ b) ⊎ (i ≢ b) → i + 1 ≤ b
        go (inl e) = absurd (apart (sym e))
        go (inr e) = omega (arith, from, e)
