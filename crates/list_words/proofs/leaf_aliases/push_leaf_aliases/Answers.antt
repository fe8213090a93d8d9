use Rattle.std.proofs.Common.{◌++◌, ◌<◌, sym, refl, subst, length, Option}
use Rattle.spec_lines.specs.LeafAliases.{alias_lines}
use Rattle.mrs_arena.specs.Placed.{aliases_of}
use Rattle.insn_tree.specs.declared.leaf_id.AliasId.{AliasId}
use Rattle.insn_tree.specs.Trees.{tree_aliases}
use Rattle.insn_alias.proofs.WalkLaws.{left, fewer_left}
use Rattle.list_words.proofs.AliasLaws.{listing_begins, listing_ends, listing_on, next_listed}
use Rattle.list_words.proofs.leaf_aliases.push_leaf_aliases.Goals as goal

pub aliases-init : goal.aliases-init
aliases-init c =
    let names = c.args.names.now in
    listing_begins names c.args.tree.now c.args.leaf.0 _ c.args.out.now.items c.first_alias-next.result c.first_alias-next.ensures.within (c.first_alias-next.ensures.first names) refl

pub push_alias_line-requires-clause-alias : goal.push_alias_line-requires-clause-alias
push_alias_line-requires-clause-alias c = next_listed _ c.args.tree.now _ _ _ c.in-Some.alias c.aliases.next c.in-Some.is c.aliases.invariant

pub next_alias-next-requires : goal.next_alias-next-requires
next_alias-next-requires c = next_listed _ c.args.tree.now _ _ _ c.in-Some.alias c.aliases.next c.in-Some.is c.aliases.invariant

pub aliases-smaller : goal.aliases-smaller
aliases-smaller c =
    let count = length (aliases_of c.args.tree.now.nodes) in
    subst (λ (o : Option AliasId). left count c.next_alias-next.result < left count o) (sym c.in-Some.is)
    (fewer_left count c.in-Some.alias c.next_alias-next.result (next_listed _ c.args.tree.now _ _ _ c.in-Some.alias c.aliases.next c.in-Some.is c.aliases.invariant) c.next_alias-next.ensures.after c.next_alias-next.ensures.within)

pub aliases-preserved : goal.aliases-preserved
aliases-preserved c =
    let names = c.args.names.now in
    listing_on names c.args.tree.now c.args.leaf.0 (c.args.out.now.items ++ alias_lines (tree_aliases names c.args.tree.now) c.args.leaf.0) c.aliases.out.items c.in-Some.alias c.aliases.next c.next_alias-next.result _ c.in-Some.is c.aliases.invariant
    c.in_ok-push_alias_line.ensures c.next_alias-next.ensures.within (c.next_alias-next.ensures.next names)

pub returns : goal.returns
returns c =
    let names = c.args.names.now in
    listing_ends names c.args.tree.now c.args.leaf.0 (c.args.out.now.items ++ alias_lines (tree_aliases names c.args.tree.now) c.args.leaf.0) c.aliases.out.items c.aliases.next c.in_default.not-Some c.aliases.invariant
