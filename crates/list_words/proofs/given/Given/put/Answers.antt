use Rattle.std.proofs.Common.{◌∙◌, sym, ap}
use Rattle.std.specs.Prelude.{bytes_eq}
use Rattle.list_words.proofs.GivenLaws.{put_is}
use Rattle.list_words.proofs.given.Given.put.Goals as goal

pub returns : goal.returns
returns c = λ given h.
    put_is c.args.names.now c.args.fields.now c.args.self.now c.put_pair.new.self given c.args.token.now.at c.in-Some.value c.in-Some.name.now _ h c.in-Some.ensures
    (ap (bytes_eq c.in-Some.name.now) (sym c.as_slice.ensures) ∙ sym c.if-eq.ensures)
    c.if-self-ge-MOST_PAIRS.false
    (c.put_pair.ensures c.args.names.now c.args.fields.now c.in-Some.name.now given h c.name_for.ensures)
