use Rattle.std.proofs.Common.{take, map, neg_ℤ}
use Rattle.feat_proof.specs.Members.{SameMembers}
use Rattle.feat_proof.proofs.derivation.negations.Given as goal

abbrev pub invariant-loop-lit : goal.invariant-loop-lit
invariant-loop-lit l = SameMembers l.set (map neg_ℤ (take l.lit-index l.clause))
