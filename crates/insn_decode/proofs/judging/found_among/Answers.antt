use Rattle.std.proofs.Common.{◌++◌, ◌∙◌, sym, ap, [], arith, ℕ}
use Rattle.spec_decode.specs.Verdict.{verdict}
use Rattle.spec_decode.specs.Found.{with_leaf}
use Rattle.mrs_arena.specs.Placed.{text_of}
use Rattle.ast_eval.specs.Choices.{configuration_of}
use Rattle.ast_eval.specs.Views.{truth_of}
use Rattle.insn_tree.specs.Trees.{tree_paths, path_at}
use Rattle.insn_decode.specs.declared.member.Member.{Member}
use Rattle.insn_decode.specs.Members.{encoding_of}
use Rattle.insn_decode.proofs.MemberLaws.{member_leaf}
use Rattle.insn_decode.proofs.JudgeLaws.{looked_at, member_at}
use Rattle.insn_decode.proofs.judging.found_among.Goals as goal

pub verdict_of-verdict-requires : goal.verdict_of-verdict-requires
verdict_of-verdict-requires g c = member_at c.args.tree.now c.args.members.now c.loop-member.member-index c.member-item.result c.requires c.loop-member-test.true c.member-item.is

pub loop-member-preserved : goal.loop-member-preserved
loop-member-preserved g c = (
  (λ names held.
      let before = c.loop-member.invariant.0 names held in
      let m = c.member-item.result in (
        before.0 ++ with_leaf m.leaf.0 (truth_of c.verdict_of-verdict.result) [],
        c.with-found.ensures before.0 before.1,
        looked_at (tree_paths names c.args.tree.now) (configuration_of (text_of names) c.args.config.now) c.args.w c.args.members.now c.loop-member.member-index m before.0 _ m.leaf.0 (truth_of c.verdict_of-verdict.result) c.loop-member-test.true before.2
            (ap (λ (x : Member). (encoding_of x).leaf) (sym c.member-item.is) ∙ member_leaf m)
            (c.verdict_of-verdict.ensures.verdict names held ∙ ap (λ (k : ℕ). verdict (path_at names c.args.tree.now k) (configuration_of (text_of names) c.args.config.now) c.args.w) (member_leaf m)),
      )),
  omega (arith, c.loop-member.invariant.1, c.verdict_of-verdict.ensures.cost),
)
