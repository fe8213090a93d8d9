use Rattle.std.proofs.Common.{◌∙◌, sym, ap, cond, Some, None}
use Rattle.mrs_arena.specs.Placed.{text_of}
use Rattle.ast_eval.specs.Choices.{configuration_of}
use Rattle.insn_encode.proofs.ExclusionLaws.{fails-excludes, holds-excludes}
use Rattle.insn_encode.proofs.exclusion.excluding.Goals as goal

pub returns-then-not-do_hold : goal.returns-then-not-do_hold
returns-then-not-do_hold c = λ names hold.
    sym (ap (λ b. cond b (Some c.args.n.0) None) (fails-excludes names c.args.arena.now.nodes c.args.n.0 c.args.arena.now.exprs c.node.result c.node.ensures.own c.items.result.now c.items.ensures
    (configuration_of (text_of names) c.args.config.now) c.args.w (sym c.do_hold.ensures ∙ c.if-not-do_hold.true)))

pub returns-then-is_refused : goal.returns-then-is_refused
returns-then-is_refused c = λ names hold.
    sym (ap (λ b. cond b (Some c.args.n.0) None) (holds-excludes names c.args.arena.now.nodes c.args.n.0 c.args.arena.now.exprs c.node.result c.node.ensures.own c.items.result.now c.items.ensures
    (configuration_of (text_of names) c.args.config.now) c.args.w (sym c.do_hold.ensures ∙ c.if-not-do_hold.false)
    ∙ sym (c.is_refused.ensures names hold) ∙ c.if-is_refused.true))

pub returns : goal.returns
returns c = λ names hold.
    sym (ap (λ b. cond b (Some c.args.n.0) None) (holds-excludes names c.args.arena.now.nodes c.args.n.0 c.args.arena.now.exprs c.node.result c.node.ensures.own c.items.result.now c.items.ensures
    (configuration_of (text_of names) c.args.config.now) c.args.w (sym c.do_hold.ensures ∙ c.if-not-do_hold.false)
    ∙ sym (c.is_refused.ensures names hold) ∙ c.if-is_refused.false))
