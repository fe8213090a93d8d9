use Rattle.spec_run.proofs.RoundTrip.{opened_fields_tell_word}
use Rattle.spec_run.proofs.opened_fields_tell_word.Goals as goal

pub returns : goal.returns
returns c = opened_fields_tell_word
