use Rattle.std.proofs.Common.{◌∙◌}
use Rattle.insn_tree.specs.PathIds.{path_of}
use Rattle.insn_encode.proofs.EncodingLaws.{rest-is}
use Rattle.insn_encode.proofs.path_encoding.rest_along.Goals as goal

pub returns : goal.returns
returns c = λ names are held. c.rest_of.ensures ∙ rest-is c.path_layout.result (path_of names c.args.tree.now c.args.p) (c.path_layout.ensures.numbers names are held) c.args.w
