use Rattle.std.proofs.Common.{◌≡◌, ◌+◌, ◌-◌, ◌<◌, sym, refl, subst, ℕ, get_or, length, map, arith}
use Rattle.std.proofs.Math.ListN.{get_or-map}
use Rattle.std.proofs.lemmas.List.{length-map}
use Rattle.insn_tree.specs.declared.leaf_id.LeafId.{LeafId}
use Rattle.insn_tree.proofs.ChainLaws.{AreChained, chained_more}
use Rattle.insn_tree.proofs.alias_chains.chain_aliases.Goals as goal

pub aliases-preserved : goal.aliases-preserved
aliases-preserved c =
    let leaves = c.args.leaves.now in
    let i = c.aliases.a - 1 in
    let below : i < length leaves = omega (arith, c.aliases-test.true, c.aliases.auto) in
    let next : c.aliases.a ≡ i + 1 = omega (arith, c.aliases-test.true) in
    chained_more (map (λ (l : LeafId). l.0) leaves) c.args.count c.aliases.firsts.items c.aliases.nexts.items i (get_or leaves i (record { 0 = 0 })).0 c.index.result.now (record { 0 = i })
    (omega (arith, below, length-map leaves (λ (l : LeafId). l.0))) (c.requires.within i (record { 0 = 0 }) below) (sym (get_or-map (λ (l : LeafId). l.0) leaves i (record { 0 = 0 }))) c.index.ensures refl
    (subst (λ (n : ℕ). AreChained (map (λ (l : LeafId). l.0) leaves) c.args.count c.aliases.firsts.items c.aliases.nexts.items n) next c.aliases.invariant)
