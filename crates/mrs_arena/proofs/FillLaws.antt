-- How the ends of subtrees are filled in.
use Rattle.std.proofs.Common.{◌≡◌, ◌∙◌, sym, ap, refl, subst, ℕ, ◌+◌, ◌<◌, ◌≤◌, false, List, length, map, get_or, set, None, arith, ◌⊎◌, inl, inr, ◌≢◌}
use Rattle.std.proofs.lemmas.Bool.{cases_eq}
use Rattle.std.proofs.lemmas.List.{get_or-map, length-map, map-set, set-get_or, get_or-set_same, get_or-set_other, length-set}
use Rattle.mrs_arena.specs.declared.node.StoredNode.{StoredNode}
use Rattle.mrs_arena.specs.Paths.{is_outside, end_of}
use Rattle.mrs_arena.specs.Inside.{parent_of, without_end, HasEnds}
use Rattle.mrs_arena.proofs.EndLaws.{end_past, end_of-above, end_of-le, end_past-subtree}

-- the subtree of the node at `at` is passed over
pub record IsPassed (nodes : List StoredNode) (n at end : ℕ) : Type 0 where
  pub further : at < end
  pub within : end ≤ length nodes
  pub past : end_past (map parent_of nodes) n end ≡ end_of (map parent_of nodes) n

pub IsPassed-subtree : (nodes : List StoredNode) (n at : ℕ) (d : StoredNode) → HasEnds nodes (n + 1) → n < at → at < length nodes
    → is_outside n (parent_of (get_or nodes at d)) ≡ false → end_past (map parent_of nodes) n at ≡ end_of (map parent_of nodes) n
    → IsPassed nodes n at (get_or nodes at d).end
IsPassed-subtree nodes n at d known after within inside past =
    let parents = map parent_of nodes in
    let count : length parents ≡ length nodes = length-map nodes parent_of in
    let end : (get_or nodes at d).end ≡ end_of parents at = sym (get_or-map (λ node. node.end) nodes at d 0 within) ∙ known at (omega arith) within in
    let inside' : is_outside n (get_or parents at None) ≡ false = ap (is_outside n) (get_or-map parent_of nodes at d None within) ∙ inside in
    let whole : IsPassed nodes n at (end_of parents at) = record {
      further = end_of-above parents at;
      within = omega (arith, end_of-le parents at (omega arith));
      past = sym (end_past-subtree parents n at after (omega arith) inside') ∙ past;
    } in
    subst (λ (e : ℕ). IsPassed nodes n at e) (sym end) whole

-- one end is written
abbrev pub with_end : StoredNode → ℕ → StoredNode
with_end node end = record node { end = end }

module _ (nodes : List StoredNode) (n : ℕ) (d : StoredNode) (end : ℕ) where
  abbrev pub written : List StoredNode
  written = set nodes n (with_end (get_or nodes n d) end)

  -- what does not see the ends stays
  map-written : {X : Type 0} (f : StoredNode → X) (e : X) → f (with_end (get_or nodes n d) end) ≡ f (get_or nodes n d) → n < length nodes → map f written ≡ map f nodes
  map-written f e same within =
      map-set f nodes n (with_end (get_or nodes n d) end)
      ∙ ap (λ x. set (map f nodes) n x) (same ∙ sym (get_or-map f nodes n d e within))
      ∙ set-get_or (map f nodes) n e

  pub written-same : n < length nodes → map without_end written ≡ map without_end nodes
  written-same within = map-written without_end d refl within

  -- and the end that is written is kept beside those behind it
  pub written-ends : n < length nodes → HasEnds nodes (n + 1) → end ≡ end_of (map parent_of nodes) n → HasEnds written n
  written-ends within known is k from below = go (cases_eq k n)
    where
      parents : map parent_of written ≡ map parent_of nodes
      parents = map-written parent_of None refl within

      ends : map (λ node. node.end) written ≡ set (map (λ node. node.end) nodes) n end
      ends = map-set (λ node. node.end) nodes n (with_end (get_or nodes n d) end)

      go : (k ≡ n) ⊎ (k ≢ n) → get_or (map (λ node. node.end) written) k 0 ≡ end_of (map parent_of written) k
      go (inl here) =
          ap (λ es. get_or es k 0) ends ∙ ap (λ i. get_or (set (map (λ node. node.end) nodes) n end) i 0) here
          ∙ get_or-set_same (map (λ node. node.end) nodes) n end 0 (omega (arith, length-map nodes (λ node. node.end)))
          ∙ is ∙ ap (λ i. end_of (map parent_of nodes) i) (sym here) ∙ ap (λ ps. end_of ps k) (sym parents)
      go (inr apart) =
          ap (λ es. get_or es k 0) ends ∙ get_or-set_other (map (λ node. node.end) nodes) n k end 0 apart
          ∙ known k (omega arith) (omega (arith, length-set nodes n (with_end (get_or nodes n d) end))) ∙ ap (λ ps. end_of ps k) (sym parents)
