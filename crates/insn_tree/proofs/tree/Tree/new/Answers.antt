use Rattle.insn_tree.proofs.tree.Tree.new.Goals as goal

pub returns-clause-made : goal.returns-clause-made
returns-clause-made c = record {
  names_are = c.in_ok-leaves-2.ensures.names;
  held = c.requires;
  labels = c.in_ok-leaves-2.ensures.labels;
  alias_labels = c.in_ok-aliases-2.ensures.labels;
}
