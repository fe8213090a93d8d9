use Rattle.std.proofs.Common.{◌∙◌, sym, ap, ℕ, [], false, true, arith}
use Rattle.spec_decode.specs.Verdict.{conditions_from}
use Rattle.mrs_arena.specs.Placed.{text_of}
use Rattle.ast_eval.specs.Choices.{configuration_of}
use Rattle.ast_eval.specs.Views.{truth_of}
use Rattle.insn_tree.specs.Trees.{path_at}
use Rattle.insn_tree.specs.OwnTexts.{leaf_conditions}
use Rattle.insn_tree.proofs.OwnTextLaws.{leaf_excluded, leaf_decided}
use Rattle.insn_decode.specs.Members.{encoding_of}
use Rattle.insn_decode.proofs.MemberLaws.{member_leaf}
use Rattle.insn_decode.proofs.JudgeLaws.{path_by_digits, excluded, decided}
use Rattle.insn_decode.proofs.judging.verdict_of.Goals as goal

pub returns-then-not-holds-clause-verdict : goal.returns-then-not-holds-clause-verdict
returns-then-not-holds-clause-verdict g c names held =
    sym (excluded c.args.tree.now (encoding_of c.args.member.now) names (configuration_of (text_of names) c.args.config.now) c.args.w c.requires (sym c.holds.ensures ∙ c.if-not-holds.true))

pub conditions_truth-requires : goal.conditions_truth-requires
conditions_truth-requires g c = omega (arith, c.requires.leaf, member_leaf c.args.member.now)

pub returns-clause-verdict : goal.returns-clause-verdict
returns-clause-verdict g c names held =
    let e = encoding_of c.args.member.now in
    decided c.args.tree.now e names (configuration_of (text_of names) c.args.config.now) c.args.w (truth_of c.conditions_truth.result) c.requires (sym c.holds.ensures ∙ c.if-not-holds.false)
    (c.conditions_truth.ensures.truth names held ∙ ap (λ (k : ℕ). conditions_from [] (path_at names c.args.tree.now k) (configuration_of (text_of names) c.args.config.now) c.args.w) (sym (member_leaf c.args.member.now)))

pub returns-then-not-holds-clause-own : goal.returns-then-not-holds-clause-own
returns-then-not-holds-clause-own g c =
    let e = encoding_of c.args.member.now in
    sym (leaf_excluded [] c.args.tree.now c.args.config.now c.args.w e.leaf c.requires.leaf (path_by_digits c.args.tree.now e [] c.args.w false c.requires (sym c.holds.ensures ∙ c.if-not-holds.true)))

pub returns-clause-own : goal.returns-clause-own
returns-clause-own g c =
    let e = encoding_of c.args.member.now in
    c.conditions_truth.ensures.own
    ∙ ap (leaf_conditions c.args.tree.now c.args.config.now c.args.w) (sym (member_leaf c.args.member.now))
    ∙ sym (leaf_decided [] c.args.tree.now c.args.config.now c.args.w e.leaf c.requires.leaf (path_by_digits c.args.tree.now e [] c.args.w true c.requires (sym c.holds.ensures ∙ c.if-not-holds.false)))
