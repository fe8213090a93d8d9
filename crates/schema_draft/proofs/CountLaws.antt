-- What one more node makes of the counts of a walk.
use Rattle.std.proofs.Common.{◌≡◌, ◌∙◌, sym, ap, refl, ℕ, ◌+◌, Bool, true, false, ◌||◌, cond, nat_le, List, [], ◌∷◌, ◌++◌, length, map, Option, Ok, Err, Result, arith}
use Rattle.std.specs.Prelude.{count_by}
use Rattle.std.proofs.lemmas.Bool.{or_parts}
use Rattle.std.proofs.lemmas.List.{length-map, length_push}
use Rattle.spec_walk.specs.Event.{TooMany, Fault, ALeaf, AnAlias, AnExpression}
use Rattle.spec_walk.specs.Limits.{Counts, ◌>>=◌, expression_limit}
use Rattle.spec_walk.specs.Walk.{Walk, Done, gives}
use Rattle.spec_walk.specs.Spot.{Spot}
use Rattle.spec_walk.specs.Spot as spot
use Rattle.spec_instructions.specs.Walk.{counted}
use Rattle.mrs_arena.specs.declared.kind.Kind.{Kind}
use Rattle.mrs_arena.specs.declared.kind.Kind.TheVariants.{Set, Group, Leaf, Alias}
use Rattle.mrs_arena.specs.declared.expr.Expr.{Expr}
use Rattle.mrs_arena.specs.Expressions.{expr_at, made, with_expr}
use Rattle.mrs_arena.specs.Flat.{FlatNode, Built}
use Rattle.mrs_arena.specs.Nodes.{new_node, at_last}
use Rattle.mrs_arena.specs.Limits.{is_leaf, is_alias, leaf_count, alias_count, is_kind_full, is_node_refused}
use Rattle.mrs_arena.specs.Placed.{kind_of, placed_node, expr_of}
use Rattle.mrs_arena.proofs.FormedLaws.{leaf_count-push, alias_count-push}
use Rattle.mrs_arena.proofs.HeldLaws.{count_by-map}
use Rattle.mrs_arena.proofs.LastOneLaws.{length-at_last, map-at_last_same}
use Rattle.schema_draft.specs.Drafted.{is_leaf_kind, is_alias_kind, counts, drafted}

-- ---- counts, by the nodes that are put

abbrev put_counts : List (List ℕ) → ℕ → ℕ → ℕ → ℕ → Counts
put_counts names exprs nodes leaves aliases = record { held = names; nodes = nodes; leaves = leaves; aliases = aliases; expressions = exprs }

leaf_kind : (kind : Kind) → is_leaf_kind (kind_of kind) ≡ is_leaf kind
leaf_kind Set = refl
leaf_kind Group = refl
leaf_kind Leaf = refl
leaf_kind Alias = refl

alias_kind : (kind : Kind) → is_alias_kind (kind_of kind) ≡ is_alias kind
alias_kind Set = refl
alias_kind Group = refl
alias_kind Leaf = refl
alias_kind Alias = refl

pub counts-placed : (names : List (List ℕ)) (b : Built) → counts (drafted names b) ≡ put_counts names (length b.exprs) (length b.nodes) (leaf_count b.nodes) (alias_count b.nodes)
counts-placed names b =
    let nodes = b.nodes in
    let placed = map (placed_node names) nodes in
    let leaves = count_by (λ p. is_leaf_kind p.own.kind) placed in
    let aliases = count_by (λ p. is_alias_kind p.own.kind) placed in
    ap (λ x. put_counts names x (length placed) leaves aliases) (length-map b.exprs (expr_of names))
    ∙ ap (λ n. put_counts names (length b.exprs) n leaves aliases) (length-map nodes (placed_node names))
    ∙ ap (λ n. put_counts names (length b.exprs) (length nodes) n aliases) (count_by-map (λ p. is_leaf_kind p.own.kind) (λ node. is_leaf node.kind) (placed_node names) nodes (λ node. leaf_kind node.kind))
    ∙ ap (put_counts names (length b.exprs) (length nodes) (leaf_count nodes)) (count_by-map (λ p. is_alias_kind p.own.kind) (λ node. is_alias node.kind) (placed_node names) nodes (λ node. alias_kind node.kind))

-- ---- one more node

abbrev one_more : Bool → ℕ → ℕ
one_more true n = n + 1
one_more false n = n

one_more-is : (is : Bool) (n : ℕ) → n + cond is 1 0 ≡ one_more is n
one_more-is true n = refl
one_more-is false n = omega arith

abbrev full_at : Spot → Fault
full_at here = record { at = here.at; why = TooMany }

abbrev first_step : Spot → Bool → Counts → Walk Unit → Result (Unit × Counts) Fault
first_step here full next more = cond full (Err (full_at here)) (Ok next) >>= gives more

counted-room : (kind : Kind) (here : Spot) (names : List (List ℕ)) (x n l a : ℕ) → nat_le 1048576 n ≡ false → is_kind_full kind l a ≡ false
    → gives (counted (kind_of kind) here) (put_counts names x n l a) ≡ Ok (tt, put_counts names x (n + 1) (one_more (is_leaf kind) l) (one_more (is_alias kind) a))
counted-room Set here names x n l a room rest = ap (λ b. first_step here b (put_counts names x (n + 1) l a) (Done tt)) room
counted-room Group here names x n l a room rest = ap (λ b. first_step here b (put_counts names x (n + 1) l a) (Done tt)) room
counted-room Leaf here names x n l a room rest =
    ap (λ b. first_step here b (put_counts names x (n + 1) l a) (spot.one_more ALeaf here)) room ∙ ap (λ b. first_step here b (put_counts names x (n + 1) (l + 1) a) (Done tt)) rest
counted-room Alias here names x n l a room rest =
    ap (λ b. first_step here b (put_counts names x (n + 1) l a) (spot.one_more AnAlias here)) room ∙ ap (λ b. first_step here b (put_counts names x (n + 1) l (a + 1)) (Done tt)) rest

counted-full : (kind : Kind) (here : Spot) (names : List (List ℕ)) (x n l a : ℕ) → (nat_le 1048576 n || is_kind_full kind l a) ≡ true → gives (counted (kind_of kind) here) (put_counts names x n l a) ≡ Err (full_at here)
counted-full kind here names x n l a full = go kind (nat_le 1048576 n) refl (is_kind_full kind l a) refl full
  where
    go : (kind : Kind) (first : Bool) → nat_le 1048576 n ≡ first → (second : Bool) → is_kind_full kind l a ≡ second → (first || second) ≡ true
        → gives (counted (kind_of kind) here) (put_counts names x n l a) ≡ Err (full_at here)
    go Set true e second f h = ap (λ b. first_step here b (put_counts names x (n + 1) l a) (Done tt)) e
    go Group true e second f h = ap (λ b. first_step here b (put_counts names x (n + 1) l a) (Done tt)) e
    go Leaf true e second f h = ap (λ b. first_step here b (put_counts names x (n + 1) l a) (spot.one_more ALeaf here)) e
    go Alias true e second f h = ap (λ b. first_step here b (put_counts names x (n + 1) l a) (spot.one_more AnAlias here)) e
    go Set false e second f h = absurd (cc)
    go Group false e second f h = absurd (cc)
    go Leaf false e true f h =
        ap (λ b. first_step here b (put_counts names x (n + 1) l a) (spot.one_more ALeaf here)) e ∙ ap (λ b. first_step here b (put_counts names x (n + 1) (l + 1) a) (Done tt)) f
    go Alias false e true f h =
        ap (λ b. first_step here b (put_counts names x (n + 1) l a) (spot.one_more AnAlias here)) e ∙ ap (λ b. first_step here b (put_counts names x (n + 1) l (a + 1)) (Done tt)) f
    go Leaf false e false f h = absurd (cc)
    go Alias false e false f h = absurd (cc)

put_counts-push : (names : List (List ℕ)) (x : ℕ) (nodes : List FlatNode) (kind : Kind) (name : ℕ) (parent : Option ℕ)
    → put_counts names x (length (nodes ++ new_node kind name parent ∷ [])) (leaf_count (nodes ++ new_node kind name parent ∷ [])) (alias_count (nodes ++ new_node kind name parent ∷ []))
    ≡ put_counts names x (length nodes + 1) (one_more (is_leaf kind) (leaf_count nodes)) (one_more (is_alias kind) (alias_count nodes))
put_counts-push names x nodes kind name parent =
    let node = new_node kind name parent in
    ap (λ n. put_counts names x n (leaf_count (nodes ++ node ∷ [])) (alias_count (nodes ++ node ∷ []))) (length_push nodes node)
    ∙ ap (λ n. put_counts names x (length nodes + 1) n (alias_count (nodes ++ node ∷ []))) (leaf_count-push nodes node ∙ one_more-is (is_leaf kind) (leaf_count nodes))
    ∙ ap (put_counts names x (length nodes + 1) (one_more (is_leaf kind) (leaf_count nodes))) (alias_count-push nodes node ∙ one_more-is (is_alias kind) (alias_count nodes))

-- with one more node
abbrev pub more_nodes : Built → List FlatNode → Built
more_nodes b nodes = record b { nodes = nodes }

pub node_taken : (here : Spot) (names : List (List ℕ)) (b : Built) (kind : Kind) (name : ℕ) (parent : Option ℕ) → is_node_refused b.nodes kind ≡ false
    → gives (counted (kind_of kind) here) (counts (drafted names b)) ≡ Ok (tt, counts (drafted names (more_nodes b (b.nodes ++ new_node kind name parent ∷ []))))
node_taken here names b kind name parent room =
    let nodes = b.nodes in
    let x = length b.exprs in
    let parts = or_parts (nat_le 1048576 (length nodes)) (is_kind_full kind (leaf_count nodes) (alias_count nodes)) room in
    ap (gives (counted (kind_of kind) here)) (counts-placed names b)
    ∙ counted-room kind here names x (length nodes) (leaf_count nodes) (alias_count nodes) parts.0 parts.1
    ∙ ap (λ c. Ok (tt, c)) (sym (put_counts-push names x nodes kind name parent) ∙ sym (counts-placed names (more_nodes b (nodes ++ new_node kind name parent ∷ []))))

pub node_refused : (here : Spot) (names : List (List ℕ)) (b : Built) (kind : Kind) → is_node_refused b.nodes kind ≡ true
    → gives (counted (kind_of kind) here) (counts (drafted names b)) ≡ Err (record { at = here.at; why = TooMany })
node_refused here names b kind refused =
    ap (gives (counted (kind_of kind) here)) (counts-placed names b) ∙ counted-full kind here names (length b.exprs) (length b.nodes) (leaf_count b.nodes) (alias_count b.nodes) refused

-- ---- more of the last node

-- a node is counted by its kind
count-at_last : (is : Kind → Bool) (f : FlatNode → FlatNode) → ((node : FlatNode) → (f node).kind ≡ node.kind) → (nodes : List FlatNode) → count_by (λ node. is node.kind) (at_last f nodes) ≡ count_by (λ node. is node.kind) nodes
count-at_last is f same nodes =
    sym (count_by-map is (λ node. is node.kind) (λ node. node.kind) (at_last f nodes) (λ node. refl)) ∙ ap (count_by is) (map-at_last_same (λ node. node.kind) f same nodes)
    ∙ count_by-map is (λ node. is node.kind) (λ node. node.kind) nodes (λ node. refl)

-- so what else is said of the last node is not
pub counts-at_last : (names : List (List ℕ)) (f : FlatNode → FlatNode) → ((node : FlatNode) → (f node).kind ≡ node.kind) → (b : Built)
    → counts (drafted names b) ≡ counts (drafted names (more_nodes b (at_last f b.nodes)))
counts-at_last names f same b =
    let nodes = b.nodes in
    let x = length b.exprs in
    counts-placed names b
    ∙ ap (λ n. put_counts names x n (leaf_count nodes) (alias_count nodes)) (sym (length-at_last f nodes))
    ∙ ap (λ n. put_counts names x (length (at_last f nodes)) n (alias_count nodes)) (sym (count-at_last is_leaf f same nodes))
    ∙ ap (put_counts names x (length (at_last f nodes)) (leaf_count (at_last f nodes))) (sym (count-at_last is_alias f same nodes))
    ∙ sym (counts-placed names (more_nodes b (at_last f nodes)))

-- ---- one more expression

pub expr_taken : (here : Spot) (names : List (List ℕ)) (b : Built) (e : Expr) → nat_le expression_limit (length b.exprs) ≡ false
    → gives (spot.one_more AnExpression here) (counts (drafted names b)) ≡ Ok (tt, counts (drafted names (record b { exprs = with_expr e b.parts b.exprs })))
expr_taken here names b e room =
    let x = length b.exprs in
    let n = length b.nodes in
    let l = leaf_count b.nodes in
    let a = alias_count b.nodes in
    ap (gives (spot.one_more AnExpression here)) (counts-placed names b)
    ∙ ap (λ full. first_step here full (put_counts names (x + 1) n l a) (Done tt)) room
    ∙ ap (λ c. Ok (tt, c)) (ap (λ x. put_counts names x n l a) (sym (length_push b.exprs (made (expr_at b.exprs) b.parts e))) ∙ sym (counts-placed names (record b { exprs = with_expr e b.parts b.exprs })))

pub expr_refused : (here : Spot) (names : List (List ℕ)) (b : Built) → nat_le expression_limit (length b.exprs) ≡ true
    → gives (spot.one_more AnExpression here) (counts (drafted names b)) ≡ Err (record { at = here.at; why = TooMany })
expr_refused here names b refused =
    ap (gives (spot.one_more AnExpression here)) (counts-placed names b)
    ∙ ap (λ full. first_step here full (put_counts names (length b.exprs + 1) (length b.nodes) (leaf_count b.nodes) (alias_count b.nodes)) (Done tt)) refused
