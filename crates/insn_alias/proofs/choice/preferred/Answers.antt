use Rattle.std.proofs.Common.{◌∙◌, ◌<◌, sym, subst, length, Option}
use Rattle.mrs_arena.specs.Placed.{aliases_of}
use Rattle.insn_tree.specs.declared.leaf_id.AliasId.{AliasId}
use Rattle.insn_alias.proofs.WalkLaws.{walk_begins, walk_ends, walk_stops, walk_on, next_within, left, fewer_left}
use Rattle.insn_alias.proofs.choice.preferred.Goals as goal

pub aliases-init : goal.aliases-init
aliases-init c = walk_begins c.args.tree.now c.args.l.0 c.args.config.now c.args.w c.first_alias-next.result c.first_alias-next.ensures.within c.first_alias-next.ensures.first

pub returns-in-None-clause-preferred : goal.returns-in-None-clause-preferred
returns-in-None-clause-preferred c names held = walk_ends c.args.tree.now c.args.l.0 c.args.config.now c.args.w names c.aliases.next c.in-None.is c.aliases.invariant held

pub is_preferable-requires : goal.is_preferable-requires
is_preferable-requires c = next_within c.args.tree.now c.args.l.0 c.args.config.now c.args.w c.in-Some.a c.aliases.next c.in-Some.is c.aliases.invariant

pub returns-then-is_preferable-clause-preferred : goal.returns-then-is_preferable-clause-preferred
returns-then-is_preferable-clause-preferred c names held =
    walk_stops c.args.tree.now c.args.l.0 c.args.config.now c.args.w names c.in-Some.a c.aliases.next c.in-Some.is c.aliases.invariant held (sym c.if-is_preferable.true ∙ c.is_preferable.ensures names held)

pub returns-then-is_preferable-clause-within : goal.returns-then-is_preferable-clause-within
returns-then-is_preferable-clause-within c = next_within c.args.tree.now c.args.l.0 c.args.config.now c.args.w c.in-Some.a c.aliases.next c.in-Some.is c.aliases.invariant

pub next_alias-next-requires : goal.next_alias-next-requires
next_alias-next-requires c = next_within c.args.tree.now c.args.l.0 c.args.config.now c.args.w c.in-Some.a c.aliases.next c.in-Some.is c.aliases.invariant

pub aliases-preserved : goal.aliases-preserved
aliases-preserved c =
    walk_on c.args.tree.now c.args.l.0 c.args.config.now c.args.w c.in-Some.a c.aliases.next c.next_alias-next.result c.in-Some.is c.aliases.invariant (λ names held. sym c.if-is_preferable.false ∙ c.is_preferable.ensures names held) c.next_alias-next.ensures.within c.next_alias-next.ensures.next

pub aliases-smaller : goal.aliases-smaller
aliases-smaller c =
    let count = length (aliases_of c.args.tree.now.nodes) in
    subst (λ (o : Option AliasId). left count c.next_alias-next.result < left count o) (sym c.in-Some.is)
    (fewer_left count c.in-Some.a c.next_alias-next.result (next_within c.args.tree.now c.args.l.0 c.args.config.now c.args.w c.in-Some.a c.aliases.next c.in-Some.is c.aliases.invariant) c.next_alias-next.ensures.after c.next_alias-next.ensures.within)
