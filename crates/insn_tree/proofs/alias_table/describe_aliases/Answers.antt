use Rattle.std.proofs.Common.{◌≡◌, ◌∙◌, sym, ap, subst, ℕ, ◌+◌, ◌<◌, List, length, map, All, arith}
use Rattle.std.proofs.lemmas.List.{length-map}
use Rattle.mrs_arena.specs.declared.node_id.NodeId.{NodeId}
use Rattle.mrs_arena.specs.Flat.{FlatNode}
use Rattle.mrs_arena.specs.Limits.{is_leaf, is_alias}
use Rattle.mrs_arena.specs.Placed.{aliases_of, has_kind, path_to}
use Rattle.spec_instructions.specs.Tree.{Own}
use Rattle.spec_instructions.specs.Paths.{labelled_path}
use Rattle.insn_tree.specs.declared.leaf_id.LeafId.{LeafId}
use Rattle.insn_tree.specs.Leaves.{leaf_above}
use Rattle.insn_tree.specs.Chains.{alias_leaves, AreChains}
use Rattle.insn_tree.specs.Words.{own_merged_at}
use Rattle.insn_tree.specs.Kept.{ArePaths}
use Rattle.insn_tree.proofs.ListLaws.{All-unmap, map-twice}
use Rattle.insn_tree.proofs.LeafLaws.{kept_within, kept_few}
use Rattle.insn_tree.proofs.AliasLaws.{leaves_within, alias_paths-are}
use Rattle.insn_tree.proofs.alias_table.describe_aliases.Goals as goal

-- aliases are nodes
are_nodes : (nodes : List FlatNode) (items list : List NodeId) → map (λ n. n.0) items ≡ aliases_of nodes → list ≡ items → All (λ n. n.0 < length nodes) list
are_nodes nodes items list aliases same =
    All-unmap (λ n. n < length nodes) (λ (n : NodeId). n.0) list (subst (All (λ n. n < length nodes)) (sym (ap (map (λ (n : NodeId). n.0)) same ∙ aliases)) (kept_within is_alias nodes))

pub own_patterns-requires : goal.own_patterns-requires
own_patterns-requires c = are_nodes c.args.arena.now.nodes c.args.aliases.nodes.items c.deref.result.now c.requires.nodes c.deref.ensures.value

pub overflow_add-count : goal.overflow_add-count
overflow_add-count c = omega (arith, c.requires.count, c.requires.formed.few, kept_few (has_kind is_leaf c.args.arena.now.nodes) (length c.args.arena.now.nodes))

pub chain_aliases-requires-clause-few : goal.chain_aliases-requires-clause-few
chain_aliases-requires-clause-few c =
    let nodes = c.args.arena.now.nodes in
    omega (arith, c.requires.formed.few, ap (λ (ls : List LeafId). length ls) c.deref-2.ensures.value, ap (λ (ns : List ℕ). length ns) c.requires.leaves, length-map c.args.aliases.leaves.items (λ (l : LeafId). l.0), length-map (aliases_of nodes) (leaf_above nodes), kept_few (has_kind is_alias nodes) (length nodes))

pub chain_aliases-requires-clause-within : goal.chain_aliases-requires-clause-within
chain_aliases-requires-clause-within c =
    let nodes = c.args.arena.now.nodes in
    let all : All (λ l. l < c.args.count + 1) (alias_leaves nodes) = subst (λ (n : ℕ). All (λ l. l < n + 1) (alias_leaves nodes)) (sym c.requires.count) (leaves_within nodes c.requires.formed) in
    All-unmap (λ l. l < c.args.count + 1) (λ (l : LeafId). l.0) c.deref-2.result.now (subst (All (λ l. l < c.args.count + 1)) (sym (ap (map (λ (l : LeafId). l.0)) c.deref-2.ensures.value ∙ c.requires.leaves)) all)

pub describe_paths-requires-clause-within : goal.describe_paths-requires-clause-within
describe_paths-requires-clause-within c = subst (All (λ n. n < length c.args.arena.now.nodes)) (sym c.requires.nodes) (kept_within is_alias c.args.arena.now.nodes)

pub describe_paths-requires-clause-few : goal.describe_paths-requires-clause-few
describe_paths-requires-clause-few c =
    omega (arith, c.requires.formed.few, ap (λ (ns : List ℕ). length ns) c.requires.nodes, length-map c.args.aliases.nodes.items (λ (n : NodeId). n.0), kept_few (has_kind is_alias c.args.arena.now.nodes) (length c.args.arena.now.nodes))

pub returns-clause-aliases : goal.returns-clause-aliases
returns-clause-aliases c =
    let nodes = c.args.arena.now.nodes in
    let items = c.args.aliases.nodes.items in
    let leaves : map (λ (l : LeafId). l.0) c.deref-2.result.now ≡ alias_leaves nodes = ap (map (λ (l : LeafId). l.0)) c.deref-2.ensures.value ∙ c.requires.leaves in
    record {
      paths = subst (λ (ends : List ℕ). ArePaths nodes ends c.in_ok-paths.paths) c.requires.nodes c.in_ok-paths.ensures.paths;
      leaves_are = c.requires.leaves;
      own_are = c.in_ok-own.ensures.digits ∙ ap (map (λ (n : NodeId). own_merged_at nodes n.0)) c.deref.ensures.value ∙ sym (map-twice (λ (n : NodeId). n.0) (own_merged_at nodes) items) ∙ ap (map (own_merged_at nodes)) c.requires.nodes;
      widths = c.in_ok-own.ensures.widths;
      chains_are = subst (λ (n : ℕ). AreChains (alias_leaves nodes) (n + 1) c.in_ok-chains.chains) c.requires.count (subst (λ (ls : List ℕ). AreChains ls (c.args.count + 1) c.in_ok-chains.chains) leaves c.in_ok-chains.ensures);
    }

pub returns-clause-labels : goal.returns-clause-labels
returns-clause-labels c text =
    let nodes = c.args.arena.now.nodes in
    c.in_ok-paths.ensures.labels text
    ∙ ap (λ (ends : List ℕ). labelled_path (map (path_to c.args.names.now nodes) ends) text) c.requires.nodes
    ∙ ap (λ (paths : List (List Own)). labelled_path paths text) (sym (alias_paths-are c.args.names.now nodes c.requires.formed))
