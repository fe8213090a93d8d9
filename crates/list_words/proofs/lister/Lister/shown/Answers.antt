use Rattle.std.proofs.Common.{◌∙◌, sym, ap}
use Rattle.spec_encoding.specs.PathLayout.{shown}
use Rattle.list_words.specs.Ways.{way_by}
use Rattle.list_words.proofs.WayLaws.{machine_path, is_path, along}
use Rattle.list_words.proofs.lister.Lister.shown.Goals as goal

pub shown_along-requires : goal.shown_along-requires
shown_along-requires c = is_path c.args.self.now.tree.now c.args.path c.requires.within

pub returns-clause-fields : goal.returns-clause-fields
returns-clause-fields c =
    let l = c.args.self.now in
    let own = c.requires.release.names_are in
    c.shown_along.ensures.fields l.names.now own.names_are own.held
    ∙ ap shown (sym (machine_path l.names.now l.tree.now l.config.now (way_by c.args.path) ∙ along l.tree.now l.names.now c.args.path c.requires.within))
