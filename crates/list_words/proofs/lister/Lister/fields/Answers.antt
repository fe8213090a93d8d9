use Rattle.std.proofs.Common.{◌∙◌, sym, ap}
use Rattle.spec_instructions.specs.Fields.{fields}
use Rattle.list_words.proofs.WayLaws.{is_path, along}
use Rattle.list_words.proofs.lister.Lister.fields.Goals as goal

pub path_fields-requires : goal.path_fields-requires
path_fields-requires c = is_path c.args.self.now.tree.now c.args.path c.requires.within

pub returns-clause-visible : goal.returns-clause-visible
returns-clause-visible c =
    let l = c.args.self.now in
    let own = c.requires.release.names_are in
    c.path_fields.ensures.visible l.names.now own.names_are own.held ∙ ap fields (sym (along l.tree.now l.names.now c.args.path c.requires.within))
