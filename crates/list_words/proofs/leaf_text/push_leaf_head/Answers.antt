use Rattle.std.proofs.Common.{arith}
use Rattle.std.proofs.lemmas.Grind.{common_steps}
use Rattle.list_words.proofs.leaf_text.push_leaf_head.Goals as goal

pub returns : goal.returns
returns c =
    let bits = rw (c.merged.ensures.bits c.args.names.now) at c.in_ok-push_bits.ensures in
    grind (arith, common_steps, bits)
