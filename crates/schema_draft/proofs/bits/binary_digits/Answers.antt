use Rattle.schema_draft.proofs.MarkLaws.{marks_of-mask}
use Rattle.schema_draft.proofs.bits.binary_digits.Goals as goal

pub returns-clause-marks : goal.returns-clause-marks
returns-clause-marks c = let p = c.args.pattern.now in marks_of-mask p.mask p.value p.width p.value_in_mask
