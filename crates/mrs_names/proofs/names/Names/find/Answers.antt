use Rattle.std.proofs.Common.{◌∙◌, ap, string_bytes}
use Rattle.mrs_names.specs.Texts.{place_of}
use Rattle.mrs_names.proofs.PlaceLaws.{position_is}
use Rattle.mrs_names.proofs.names.Names.find.Goals as goal

pub returns-in-Some : goal.returns-in-Some
returns-in-Some c = c.in-Some.ensures.index ∙ position_is string_bytes c.args.text.now c.self.inside.texts.keys ∙ ap (λ names. place_of c.args.text.now names) c.self.view_is

pub returns-in-None : goal.returns-in-None
returns-in-None c = c.in-None.ensures.index ∙ position_is string_bytes c.args.text.now c.self.inside.texts.keys ∙ ap (λ names. place_of c.args.text.now names) c.self.view_is
