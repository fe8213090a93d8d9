-- The conditions down to a node are those down to its parent, and its own.
use Rattle.std.proofs.Common.{◌≡◌, ◌∙◌, sym, ap, refl, subst, ℕ, zero, suc, ◌<◌, List, [], ◌∷◌, ◌++◌, length, map, reverse, get_or, Option, Some, None, IfSome, slice_get, Bool, true, false, ◌||◌}
use Rattle.std.specs.Prelude.{option_map, is_some, unwrap_or}
use Rattle.std.specs.List.{list_any, AllByRecursion}
use Rattle.std.proofs.lemmas.Option.{slice_get_within, get_or_from_slice_get}
use Rattle.std.proofs.lemmas.List.{map-append, get_or-map}
use Rattle.std.proofs.lemmas.Grind.{reverse_onto}
use Rattle.spec_expressions.specs.Expression.{ExprOf}
use Rattle.spec_expressions.specs.Truth.{Yes, conjunction}
use Rattle.spec_expressions.specs.Scope.{Configuration}
use Rattle.spec_expressions.specs.Value.{truth}
use Rattle.spec_instructions.specs.Tree.{Own}
use Rattle.spec_instructions.specs.Fields.{fields}
use Rattle.spec_decode.specs.Verdict.{conditions_from}
use Rattle.spec_decode.proofs.ConditionLaws.{conditions-last, no_conditions}
use Rattle.mrs_arena.specs.declared.expr_id.ExprId.{ExprId}
use Rattle.mrs_arena.specs.Flat.{FlatNode, ArenaNode}
use Rattle.mrs_arena.specs.Views.{node_put}
use Rattle.mrs_arena.specs.Expressions.{expr_at}
use Rattle.mrs_arena.specs.Nodes.{parents_of}
use Rattle.mrs_arena.specs.Paths.{ancestors, path_up}
use Rattle.mrs_arena.specs.Placed.{expr_of, own_of_flat, no_own, own_at, path_to}
use Rattle.mrs_arena.proofs.PathLaws.{ancestors-step}
use Rattle.mrs_arena.proofs.NodeLaws.{length-parents_of}
use Rattle.insn_tree.specs.Conditions.{has_condition, is_conditioned, path_above, conditions_at}

-- ---- the last node of a path

pub get_or-mapped : {X Y : Type 0} (f : X → Y) (xs : List X) (n : ℕ) (x : X) (d : Y) → slice_get xs n ≡ Some x → get_or (map f xs) n d ≡ f x
get_or-mapped f xs n x d at = get_or-map f xs n x d (slice_get_within xs n x at) ∙ ap f (get_or_from_slice_get xs n x x at)

down : (names : List (List ℕ)) (nodes : List FlatNode) (parent : Option ℕ) → map (own_at names nodes) (reverse (path_up (parents_of nodes) parent)) ≡ path_above names nodes parent
down names nodes None = refl
down names nodes (Some p) = refl

module _ (names : List (List ℕ)) (nodes : List FlatNode) (n : ℕ) (node : FlatNode) (at : slice_get nodes n ≡ Some node) (before : IfSome node.parent (λ p. p < n)) where
  pub path_to-step : path_to names nodes n ≡ path_above names nodes node.parent ++ own_of_flat names node ∷ []
  path_to-step =
      let within : n < length (parents_of nodes) = subst (λ l. n < l) (sym (length-parents_of nodes)) (slice_get_within nodes n node at) in
      let parent : get_or (parents_of nodes) n None ≡ node.parent = get_or-mapped (λ x. x.parent) nodes n node None at in
      ap (λ up. map (own_at names nodes) (reverse up)) (ancestors-step (parents_of nodes) n within (λ p is. subst (λ o. IfSome o (λ q. q < n)) (sym parent ∙ is) before))
      ∙ ap (map (own_at names nodes)) (reverse_onto (path_up (parents_of nodes) (get_or (parents_of nodes) n None)) n [])
      ∙ map-append (own_at names nodes) (reverse (path_up (parents_of nodes) (get_or (parents_of nodes) n None))) (n ∷ [])
      ∙ ap (λ o. map (own_at names nodes) (reverse (path_up (parents_of nodes) o)) ++ own_at names nodes n ∷ []) parent
      ∙ ap (λ front. front ++ own_at names nodes n ∷ []) (down names nodes node.parent)
      ∙ ap (λ own. path_above names nodes node.parent ++ own ∷ []) (get_or-mapped (own_of_flat names) nodes n node no_own at)

  pub conditions-step : (g : Configuration) (w : ℕ) → conditions_at names nodes g w n
      ≡ conjunction (conditions_from [] (path_above names nodes node.parent) g w) (truth (option_map (expr_of names) node.condition) g (fields (path_to names nodes n)) w)
  conditions-step g w =
      ap (λ path. conditions_from [] path g w) path_to-step
      ∙ conditions-last [] (path_above names nodes node.parent) (own_of_flat names node) g w
      ∙ ap (λ path. conjunction (conditions_from [] (path_above names nodes node.parent) g w) (truth (option_map (expr_of names) node.condition) g (fields path) w)) (sym path_to-step)

-- ---- paths without conditions

abbrev IsFree : Own → Type 0
IsFree own = own.condition ≡ None

all-append : (xs ys : List Own) → AllByRecursion IsFree xs → AllByRecursion IsFree ys → AllByRecursion IsFree (xs ++ ys)
all-append [] ys h g = g
all-append (x ∷ xs) ys h g = (h.0, all-append xs ys h.1 g)

free_node : (names : List (List ℕ)) (nodes : List FlatNode) (n : ℕ) → has_condition nodes n ≡ false → IsFree (own_at names nodes n)
free_node names [] n h = refl
free_node names (node ∷ nodes) zero h = none node.condition h
  where
    none : (c : Option _) → is_some c ≡ false → option_map (expr_of names) c ≡ None
    none None h = refl
    none (Some c) h = absurd cc
free_node names (node ∷ nodes) (suc n) h = free_node names nodes n h

or_false : (a b : Bool) → (a || b) ≡ false → (a ≡ false) × (b ≡ false)
or_false true b h = absurd cc
or_false false b h = (refl, h)

free_path : (names : List (List ℕ)) (nodes : List FlatNode) (up : List ℕ) → list_any (has_condition nodes) up ≡ false → AllByRecursion IsFree (map (own_at names nodes) (reverse up))
free_path names nodes [] h = tt
free_path names nodes (n ∷ up) h =
    let parts = or_false (has_condition nodes n) (list_any (has_condition nodes) up) h in
    subst (AllByRecursion IsFree) (sym (ap (map (own_at names nodes)) (reverse_onto up n []) ∙ map-append (own_at names nodes) (reverse up) (n ∷ [])))
    (all-append (map (own_at names nodes) (reverse up)) (own_at names nodes n ∷ []) (free_path names nodes up parts.1) (free_node names nodes n parts.0, tt))

pub free-conditions : (names : List (List ℕ)) (nodes : List FlatNode) (n : ℕ) → is_conditioned nodes n ≡ false → (g : Configuration) (w : ℕ) → conditions_at names nodes g w n ≡ Yes
free-conditions names nodes n h g w = no_conditions [] (path_to names nodes n) g w (free_path names nodes (ancestors (parents_of nodes) n) h)

-- ---- a look for a condition along a path

-- a node without a condition, as it is read back
pub no_condition : (nodes : List FlatNode) (exprs : List (ExprOf ℕ)) (k : ℕ) (node : ArenaNode) (found : Option ExprId) → slice_get nodes k ≡ Some (node_put exprs node)
    → option_map (λ e. e.0) found ≡ node.condition → is_some found ≡ false → has_condition nodes k ≡ false
no_condition nodes exprs k node found at is none =
    ap (λ o. unwrap_or (option_map (λ n. is_some n.condition) o) false) at
    ∙ ap (λ c. is_some (option_map (expr_at exprs) c)) (sym is)
    ∙ nothing found none
  where
    nothing : (o : Option ExprId) → is_some o ≡ false → is_some (option_map (expr_at exprs) (option_map (λ e. e.0) o)) ≡ false
    nothing None none = refl
    nothing (Some e) none = none

pub any-step : (nodes : List FlatNode) (left next : List ℕ) (k : ℕ) (whole : Bool) → left ≡ k ∷ next → has_condition nodes k ≡ false → list_any (has_condition nodes) left ≡ whole → list_any (has_condition nodes) next ≡ whole
any-step nodes left next k whole steps none h =
    ap (λ b. b || list_any (has_condition nodes) next) (sym none) ∙ ap (list_any (has_condition nodes)) (sym steps) ∙ h
