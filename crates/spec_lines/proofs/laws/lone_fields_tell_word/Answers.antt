use Rattle.spec_lines.proofs.EncodedLaws.{lone_fields_tell_word}
use Rattle.spec_lines.proofs.laws.lone_fields_tell_word.Goals as goal

pub returns : goal.returns
returns c = lone_fields_tell_word
