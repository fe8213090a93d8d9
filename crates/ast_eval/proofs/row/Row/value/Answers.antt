use Rattle.std.proofs.Common.{◌∙◌, sym, ap, []}
use Rattle.ast_eval.specs.Rows.{joined_with}
use Rattle.ast_eval.proofs.BitsLaws.{joined-alone}
use Rattle.ast_eval.proofs.row.Row.value.Goals as goal

pub returns-in-Bits : goal.returns-in-Bits
returns-in-Bits c = joined-alone c.in-Bits.bits ∙ ap (λ row. joined_with row []) (sym c.in-Bits.is)
