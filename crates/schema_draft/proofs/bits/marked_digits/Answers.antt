use Rattle.std.proofs.Common.{sym, ap, ◌∙◌, unwrap_or, option_map, []}
use Rattle.bit_pattern.specs.Digits.{digits_below}
use Rattle.bit_pattern.specs.Views.{digits_of}
use Rattle.spec_instructions.specs.Encodeset.{marked_by}
use Rattle.schema_draft.proofs.MarkLaws.{marks_of-both, marks_of-zero, and_twice}
use Rattle.schema_draft.proofs.bits.marked_digits.Goals as goal

pub returns-in-Some-clause-marks : goal.returns-in-Some-clause-marks
returns-in-Some-clause-marks c =
    let p = c.args.pattern.now in
    let m = c.in-Some.mask in
    let width = rw c.in-Some.is at c.requires.width in
    marks_of-both p.mask p.value m.mask m.value p.width p.value_in_mask m.value_in_mask
    ∙ ap (λ n. marked_by (digits_below p.mask p.value p.width) (digits_below m.mask m.value n)) (sym width)
    ∙ ap (λ o. marked_by (digits_of p) (unwrap_or (option_map digits_of o) [])) (sym c.in-Some.is)

pub returns-in-Some-clause-inside : goal.returns-in-Some-clause-inside
returns-in-Some-clause-inside c = and_twice c.args.pattern.now.mask c.in-Some.mask.value

pub returns-in-None-clause-marks : goal.returns-in-None-clause-marks
returns-in-None-clause-marks c =
    let p = c.args.pattern.now in
    marks_of-zero p.mask p.value p.width
    ∙ ap (λ o. marked_by (digits_of p) (unwrap_or (option_map digits_of o) [])) (sym c.in-None.is)
