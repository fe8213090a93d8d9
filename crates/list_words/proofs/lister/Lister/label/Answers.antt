use Rattle.std.proofs.Common.{◌∙◌}
use Rattle.list_words.proofs.WayLaws.{is_path, labelled}
use Rattle.list_words.proofs.lister.Lister.label.Goals as goal

pub path_label-requires-clause-path : goal.path_label-requires-clause-path
path_label-requires-clause-path c = is_path c.args.self.now.tree.now c.args.path c.requires.within

pub returns : goal.returns
returns c =
    let l = c.args.self.now in
    c.path_label.ensures.text ∙ labelled l.tree.now l.names.now l.config.now c.args.path
