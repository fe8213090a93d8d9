use Rattle.std.proofs.Common.{map}
use Rattle.insn_tree.proofs.ChainLaws.{AreChained}
use Rattle.insn_tree.proofs.alias_chains.chain_aliases.Given as goal

-- the aliases from number a on are chained
abbrev pub invariant-aliases : goal.invariant-aliases
invariant-aliases l = AreChained (map (λ n. n.0) l.leaves) l.count l.firsts.items l.nexts.items l.a
