use Rattle.std.proofs.Common.{◌∙◌, ap, option_map}
use Rattle.mrs_arena.specs.Expressions.{expr_at}
use Rattle.mrs_arena.specs.Views.{node_put}
use Rattle.ast_eval.specs.Views.{truth_of}
use Rattle.insn_alias.proofs.PreferenceLaws.{preference-is}
use Rattle.insn_alias.proofs.preference.is_preference_yes.Goals as goal

pub returns : goal.returns
returns c names hold =
    let exprs = c.args.arena.now.exprs in
    c.is_yes.ensures
    ∙ preference-is names c.args.arena.now.nodes c.args.n.0 (node_put exprs c.node.result) c.node.ensures.own c.args.config.now c.args.w hold c.at.result c.at.ensures.items (c.at.ensures.fields names)
    (expr_at exprs c.in-Some.preference.0) (truth_of c.truth.result) (ap (option_map (expr_at exprs)) c.in-Some.ensures) c.truth.ensures.named
