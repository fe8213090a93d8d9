use Rattle.std.proofs.Common.{◌∙◌, sym, []}
use Rattle.std.proofs.lemmas.Option.{get_or_from_slice_get}
use Rattle.list_words.proofs.name.name_bytes.Goals as goal

pub returns : goal.returns
returns c = c.as_bytes.ensures.value ∙ sym (get_or_from_slice_get c.args.names.now c.args.id.0 c.text.result.now [] c.text.ensures.text)
