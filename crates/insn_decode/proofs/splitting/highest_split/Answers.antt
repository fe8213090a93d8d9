use Rattle.std.proofs.Common.{◌∙◌, sym, ◌-◌, map, arith}
use Rattle.insn_decode.specs.Members.{encoding_of}
use Rattle.insn_decode.proofs.SplitLaws.{highest_here, highest_below, highest_none}
use Rattle.insn_decode.proofs.splitting.highest_split.Goals as goal

pub returns-then-splits : goal.returns-then-splits
returns-then-splits c =
    sym (highest_here (c.bits.i - 1) c.bits.i (map encoding_of c.args.members.now) (omega (arith, c.bits-test.true)) (sym c.splits.ensures ∙ c.if-splits.true)) ∙ c.bits.invariant

pub bits-preserved : goal.bits-preserved
bits-preserved c =
    sym (highest_below (c.bits.i - 1) c.bits.i (map encoding_of c.args.members.now) (omega (arith, c.bits-test.true)) (sym c.splits.ensures ∙ c.if-splits.false)) ∙ c.bits.invariant

pub returns : goal.returns
returns c = sym (highest_none c.bits.i (map encoding_of c.args.members.now) (omega (arith, c.bits-test.false))) ∙ c.bits.invariant
