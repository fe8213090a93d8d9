-- Laws of nodes of any kind that have a parent and parts each: the parts along a path, as nodes are put.
use Rattle.std.proofs.Common.{◌≡◌, ◌∙◌, sym, ap, refl, subst, ℕ, ◌<◌, ◌≤◌, List, [], ◌∷◌, ◌++◌, length, map, get_or, Option, Some, None, arith, ◌⊎◌, inl, inr, Contains}
use Rattle.std.specs.Prelude.{flat_map}
use Rattle.std.proofs.lemmas.Bool.{cases_lt}
use Rattle.std.proofs.lemmas.List.{map_push, map-append, length-map, get_or_push, get_or_append_left}
use Rattle.mrs_arena.specs.Paths.{path_up, ancestors}
use Rattle.mrs_arena.proofs.PathLaws.{ancestors-append, ancestors-push, ancestors-past, ancestors-le, Contains-here, Contains-there, Contains-none}

-- the numbers of a path are those of nodes
pub ancestors-lt : (parents : List (Option ℕ)) (n k : ℕ) → Contains (ancestors parents n) k → k < length parents
ancestors-lt parents n k on = go (cases_lt n (length parents))
  where
    go : (n < length parents) ⊎ (length parents ≤ n) → k < length parents
    go (inl within) = let low = ancestors-le parents n k on in omega arith
    go (inr past) = absurd (Contains-none k (subst (λ (path : List ℕ). Contains path k) (ancestors-past parents n past) on))

flat_map-same : {A : Type 0} (f g : ℕ → List A) (ks : List ℕ) → ((k : ℕ) → Contains ks k → f k ≡ g k) → flat_map f ks ≡ flat_map g ks
flat_map-same f g [] same = refl
flat_map-same f g (k ∷ ks) same =
    ap (λ xs. xs ++ flat_map f ks) (same k (Contains-here k ks)) ∙ ap (λ xs. g k ++ xs) (flat_map-same f g ks (λ j on. same j (Contains-there k ks j on)))

module _ {N X : Type 0} (parent : N → Option ℕ) (parts : N → List X) where
  -- the parts of a node, those of the nodes from one up to the root, and those from a node that may be there
  abbrev pub parts_at : List N → ℕ → List X
  parts_at nodes n = get_or (map parts nodes) n []

  abbrev pub parts_along : List N → ℕ → List X
  parts_along nodes n = flat_map (parts_at nodes) (ancestors (map parent nodes) n)

  abbrev pub parts_up : List N → Option ℕ → List X
  parts_up nodes None = []
  parts_up nodes (Some n) = parts_along nodes n

  -- the parts of a node stay while more nodes are put
  pub parts_at-append : (nodes more : List N) (n : ℕ) → n < length nodes → parts_at (nodes ++ more) n ≡ parts_at nodes n
  parts_at-append nodes more n h =
      ap (λ partss. get_or partss n []) (map-append parts nodes more)
      ∙ get_or_append_left (map parts nodes) (map parts more) [] n (omega (arith, length-map nodes parts))

  pub parts_at-push : (nodes : List N) (node : N) → parts_at (nodes ++ node ∷ []) (length nodes) ≡ parts node
  parts_at-push nodes node = ap (λ partss. get_or partss (length nodes) []) (map_push parts nodes node) ∙ get_or_push (map parts nodes) (parts node) [] (length nodes) (length-map nodes parts)

  -- and so do those along a path
  along_kept : (nodes more : List N) (n : ℕ) → flat_map (parts_at (nodes ++ more)) (ancestors (map parent nodes) n) ≡ parts_along nodes n
  along_kept nodes more n =
      flat_map-same (parts_at (nodes ++ more)) (parts_at nodes) (ancestors (map parent nodes) n)
      (λ k on. parts_at-append nodes more k (let low = ancestors-lt (map parent nodes) n k on in omega (arith, length-map nodes parent)))

  pub parts_along-append : (nodes more : List N) (n : ℕ) → n < length nodes → parts_along (nodes ++ more) n ≡ parts_along nodes n
  parts_along-append nodes more n h =
      let path = ap (λ parents. ancestors parents n) (map-append parent nodes more) ∙ ancestors-append (map parent nodes) (map parent more) n (omega (arith, length-map nodes parent)) in
      ap (λ ks. flat_map (parts_at (nodes ++ more)) ks) path ∙ along_kept nodes more n

  -- the parts along the last node's path are its own and those along its parent's
  pub parts_along-push : (nodes : List N) (node : N) → parts_along (nodes ++ node ∷ []) (length nodes) ≡ parts node ++ parts_up nodes (parent node)
  parts_along-push nodes node =
      let parents = map parent nodes in
      let path =
      ap (λ ps. ancestors ps (length nodes)) (map-append parent nodes (node ∷ [])) ∙ ap (λ n. ancestors (parents ++ parent node ∷ []) n) (sym (length-map nodes parent))
      ∙ ancestors-push parents (parent node) ∙ ap (λ n. n ∷ path_up parents (parent node)) (length-map nodes parent) in
      ap (λ ks. flat_map (parts_at (nodes ++ node ∷ [])) ks) path
      ∙ ap (λ xs. xs ++ flat_map (parts_at (nodes ++ node ∷ [])) (path_up parents (parent node))) (parts_at-push nodes node)
      ∙ ap (λ xs. parts node ++ xs) (above (parent node))
    where
      above : (p : Option ℕ) → flat_map (parts_at (nodes ++ node ∷ [])) (path_up (map parent nodes) p) ≡ parts_up nodes p
      above None = refl
      above (Some p) = along_kept nodes (node ∷ []) p
