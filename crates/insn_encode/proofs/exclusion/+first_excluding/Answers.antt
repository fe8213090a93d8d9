use Rattle.std.proofs.Common.{◌∙◌, sym, refl, Some, None}
use Rattle.mrs_arena.specs.Placed.{text_of}
use Rattle.ast_eval.specs.Choices.{configuration_of}
use Rattle.insn_encode.proofs.ExclusionLaws.{first-root, first-below}
use Rattle.insn_encode.proofs.exclusion.+first_excluding.Goals as goal

pub returns-in_default : goal.returns-in_default
returns-in_default t c = λ names hold.
    c.excluding.ensures names hold
    ∙ sym (first-root names c.args.arena.now.nodes c.args.n.0 c.args.arena.now.exprs c.node.result c.node.ensures.own None c.in_default.ensures c.node.ensures.parent (configuration_of (text_of names) c.args.config.now) c.args.w refl)

pub returns-in-Some-first_excluding : goal.returns-in-Some-first_excluding
returns-in-Some-first_excluding t c = λ names hold.
    sym (first-below names c.args.arena.now.nodes c.args.n.0 c.args.arena.now.exprs c.node.result c.node.ensures.own (Some c.in-Some.parent.0) c.in-Some.ensures c.node.ensures.parent (configuration_of (text_of names) c.args.config.now) c.args.w
    c.in-Some.parent.0 refl (Some c.in-Some-first_excluding.first.0) (c.in-Some-first_excluding.ensures names hold))

pub returns : goal.returns
returns t c = λ names hold.
    c.excluding-2.ensures names hold
    ∙ sym (first-below names c.args.arena.now.nodes c.args.n.0 c.args.arena.now.exprs c.node.result c.node.ensures.own (Some c.in-Some.parent.0) c.in-Some.ensures c.node.ensures.parent (configuration_of (text_of names) c.args.config.now) c.args.w
    c.in-Some.parent.0 refl None (c.in_default-first_excluding.ensures names hold))
