use Rattle.std.proofs.Common.{◌∙◌, ap}
use Rattle.insn_tree.specs.Trees.{number_of}
use Rattle.insn_tree.proofs.LabelLaws.{lookup-labels}
use Rattle.insn_tree.proofs.label_table.LabelTable.find.Goals as goal

pub returns : goal.returns
returns c =
    let entries = c.self.inside.numbers.entries in
    c.copied.ensures ∙ c.get.ensures.value ∙ lookup-labels c.args.text.now entries ∙ ap (number_of c.args.text.now) c.self.view_is
