use Rattle.std.proofs.Common.{subst}
use Rattle.list_words.specs.Names.{IsNameFor}
use Rattle.list_words.proofs.NameLaws.{name_is}
use Rattle.list_words.proofs.field_name.name_for.Goals as goal

pub returns-in-Ok : goal.returns-in-Ok
returns-in-Ok c = subst (λ text. IsNameFor c.args.names.now c.args.fields.now text c.find.result) c.in-Ok.ensures.cases.0 (name_is c.args.names.now c.args.fields.now c.in-Ok.text.now c.find.result c.requires c.find.ensures)
