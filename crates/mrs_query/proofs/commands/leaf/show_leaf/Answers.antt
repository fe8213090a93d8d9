use Rattle.std.proofs.Common.{Some}
use Rattle.spec_instructions.specs.Paths.{labelled_leaf}
use Rattle.mrs_query.proofs.LeafLaws.{leaf_ends}
use Rattle.mrs_query.proofs.commands.leaf.show_leaf.Goals as goal

pub returns-clause-ended : goal.returns-clause-ended
returns-clause-ended g c =
    leaf_ends c.args.opened.now (Some c.in-Some.leaf.0) (labelled_leaf c.args.opened.now.paths c.args.label.now) _ _ _ c.in-Some.ensures.leaf (c.put_out.ensures.ended _ c.leaf_lines.ensures)
