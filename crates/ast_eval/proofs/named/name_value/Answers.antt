use Rattle.std.proofs.Common.{◌∙◌, sym, ap, option_map}
use Rattle.spec_bits.specs.Bits.{slice}
use Rattle.spec_bits.specs.Number.{low_digits}
use Rattle.spec_expressions.specs.Operations.{APattern, ATruth}
use Rattle.ast_eval.specs.EnvView.{range_bounds}
use Rattle.ast_eval.proofs.TextLaws.{name_value-some, name_value-none}
use Rattle.ast_eval.proofs.named.name_value.Goals as goal

pub returns-in-Some : goal.returns-in-Some
returns-in-Some c =
    ap APattern c.of_slice.ensures.digits
    ∙ ap (λ bits. APattern (low_digits c.in-Some.range.width (slice bits c.in-Some.range.start c.in-Some.range.width))) c.from.ensures
    ∙ name_value-some c.args.name.0 c.args.w c.args.env.now c.args.config.now c.in-Some.range (sym (ap (option_map range_bounds) c.in-Some.is) ∙ c.range_of.ensures.deepest)

pub returns-in-None : goal.returns-in-None
returns-in-None c =
    ap ATruth c.state_truth.ensures ∙ name_value-none c.args.name.0 c.args.w c.args.env.now c.args.config.now (sym (ap (option_map range_bounds) c.in-None.is) ∙ c.range_of.ensures.deepest)
