use Rattle.std.proofs.Common.{map}
use Rattle.insn_decode.specs.Members.{encoding_of}
use Rattle.insn_decode.proofs.SplitLaws.{next_within}
use Rattle.insn_decode.proofs.splitting.next_bit.Goals as goal

pub returns-clause-within : goal.returns-clause-within
returns-clause-within c = next_within c.chosen_bit.result (map encoding_of c.args.members.now) c.chosen_bit.ensures
