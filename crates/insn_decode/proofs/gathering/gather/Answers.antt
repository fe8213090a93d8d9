use Rattle.std.proofs.Common.{drop, [], arith}
use Rattle.spec_decode.specs.Bucket.{encodings_from}
use Rattle.insn_tree.specs.Trees.{tree_paths}
use Rattle.insn_decode.proofs.BucketMembers.{few_members}
use Rattle.insn_decode.proofs.gathering.gather.Goals as goal

pub returns-clause-few : goal.returns-clause-few
returns-clause-few c =
    few_members c.args.tree.now c.loop-l.members.items (encodings_from c.loop-l.l (drop c.loop-l.l (tree_paths [] c.args.tree.now))) _ (omega (arith, c.leaves.ensures.count, c.leaves.ensures.few)) (c.loop-l.invariant [])
