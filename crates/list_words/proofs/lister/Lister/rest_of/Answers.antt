use Rattle.std.proofs.Common.{◌∙◌, sym, ap, List}
use Rattle.spec_instructions.specs.Tree.{Own}
use Rattle.spec_encoding.specs.PathLayout.{rest_of}
use Rattle.list_words.specs.Ways.{way_by}
use Rattle.list_words.proofs.WayLaws.{machine_path, is_path, along}
use Rattle.list_words.proofs.lister.Lister.rest_of.Goals as goal

pub rest_along-requires : goal.rest_along-requires
rest_along-requires c = is_path c.args.self.now.tree.now c.args.path c.requires.within

pub returns : goal.returns
returns c =
    let l = c.args.self.now in
    let own = c.requires.release.names_are in
    c.rest_along.ensures l.names.now own.names_are own.held
    ∙ ap (λ (p : List Own). rest_of p c.args.w) (sym (machine_path l.names.now l.tree.now l.config.now (way_by c.args.path) ∙ along l.tree.now l.names.now c.args.path c.requires.within))
