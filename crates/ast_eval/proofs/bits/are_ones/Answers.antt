use Rattle.std.proofs.Common.{◌∙◌, sym, ap, is_some, cond}
use Rattle.spec_bits.specs.Number.{number_of}
use Rattle.spec_expressions.specs.Truth.{Open}
use Rattle.spec_expressions.specs.Operations.{all_are}
use Rattle.bit_pattern.specs.Views.{digits_of}
use Rattle.ast_eval.specs.Views.{known, value_of}
use Rattle.ast_eval.proofs.BitsLaws.{ones_hold}
use Rattle.ast_eval.proofs.bits.are_ones.Goals as goal

pub returns-in-Bits : goal.returns-in-Bits
returns-in-Bits c =
    c.known_to_hold.ensures
    ∙ ap (λ all. cond (is_some (number_of (digits_of c.in-Bits.bits))) (known all) Open) (ones_hold c.in-Bits.bits)
    ∙ ap (λ val. all_are 1 (value_of val)) (sym c.in-Bits.is)
