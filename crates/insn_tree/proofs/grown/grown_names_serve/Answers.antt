use Rattle.insn_tree.proofs.GrownTrees.{serve_as_well}
use Rattle.insn_tree.proofs.grown.grown_names_serve.Goals as goal

pub returns : goal.returns
returns c = serve_as_well
