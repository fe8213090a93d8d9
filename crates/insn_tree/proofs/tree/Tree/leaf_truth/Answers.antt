use Rattle.std.proofs.Common.{◌∙◌, sym, ap, []}
use Rattle.spec_decode.specs.Verdict.{conditions_from, by_items}
use Rattle.mrs_arena.specs.Placed.{text_of}
use Rattle.ast_eval.specs.Choices.{configuration_of}
use Rattle.insn_tree.specs.Trees.{path_at}
use Rattle.insn_tree.proofs.OwnTextLaws.{leaf_excluded, leaf_decided}
use Rattle.insn_tree.proofs.tree.Tree.leaf_truth.Goals as goal

pub returns-clause-truth : goal.returns-clause-truth
returns-clause-truth g c names held =
    c.conditions.ensures.truth names held
    ∙ ap (λ b. by_items b (conditions_from [] (path_at names c.args.self.now c.args.l.0) (configuration_of (text_of names) c.args.config.now) c.args.w)) (sym (sym (c.items_hold.ensures names) ∙ c.if-not-items_hold.false))

pub returns-then-not-items_hold-clause-own : goal.returns-then-not-items_hold-clause-own
returns-then-not-items_hold-clause-own g c =
    sym (leaf_excluded [] c.args.self.now c.args.config.now c.args.w c.args.l.0 c.requires (sym (c.items_hold.ensures []) ∙ c.if-not-items_hold.true))

pub returns-clause-own : goal.returns-clause-own
returns-clause-own g c =
    c.conditions.ensures.own ∙ sym (leaf_decided [] c.args.self.now c.args.config.now c.args.w c.args.l.0 c.requires (sym (c.items_hold.ensures []) ∙ c.if-not-items_hold.false))
