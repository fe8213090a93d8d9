use Rattle.std.proofs.Common.{◌≡◌, ◌∙◌, sym, ap, false, inl, inr}
use Rattle.spec_encoding.specs.PathLayout.{is_no}
use Rattle.ast_eval.specs.declared.kleene.Truth.{Truth}
use Rattle.ast_eval.specs.Views.{truth_of}
use Rattle.insn_encode.proofs.ExclusionLaws.{condition-truth}
use Rattle.insn_encode.proofs.exclusion.is_refused.Goals as goal

pub returns-in-No : goal.returns-in-No
returns-in-No c = λ names hold.
    sym (ap (λ (t : Truth). is_no (truth_of t)) c.in-No.is)
    ∙ ap is_no (condition-truth names c.args.arena.now.nodes c.args.n.0 c.args.arena.now.exprs c.node.result c.node.ensures.own c.condition-condition.result c.args.config.now c.at.result c.args.w (truth_of c.truth.result)
    c.condition-condition.ensures c.at.ensures.items (c.at.ensures.fields names) hold c.truth.ensures.named)

pub returns-in-Yes : goal.returns-in-Yes
returns-in-Yes c = λ names hold.
    let same : false ≡ is_no (truth_of c.truth.result) =
    elim c.in-Yes.is [ inl held ↦ sym (ap (λ (t : Truth). is_no (truth_of t)) held) | inr open' ↦ sym (ap (λ (t : Truth). is_no (truth_of t)) open') ] in
    same
    ∙ ap is_no (condition-truth names c.args.arena.now.nodes c.args.n.0 c.args.arena.now.exprs c.node.result c.node.ensures.own c.condition-condition.result c.args.config.now c.at.result c.args.w (truth_of c.truth.result)
    c.condition-condition.ensures c.at.ensures.items (c.at.ensures.fields names) hold c.truth.ensures.named)
