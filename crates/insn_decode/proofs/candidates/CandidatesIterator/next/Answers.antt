use Rattle.std.proofs.Common.{◌∙◌, ◌+◌, sym, ap, List, length, map, drop, arith}
use Rattle.ast_eval.specs.declared.kleene.Truth.{Truth}
use Rattle.insn_tree.specs.declared.leaf_id.LeafId.{LeafId}
use Rattle.insn_decode.specs.Members.{encoding_of}
use Rattle.insn_decode.specs.Left.{found_left, before_others}
use Rattle.insn_decode.proofs.JudgeLaws.{member_got}
use Rattle.insn_decode.proofs.LeftLaws.{left_step}
use Rattle.insn_decode.proofs.candidates.CandidatesIterator.next.Goals as goal

pub verdict_uncounted-verdict-requires : goal.verdict_uncounted-verdict-requires
verdict_uncounted-verdict-requires c =
    member_got c.loop-self.self-inside.tree.now c.loop-self.self-inside.members.now c.loop-self.self-inside.at c.index-self-self.result c.loop-self.invariant.1 c.loop-self-test.true

-- the item that is given, and those that are left
pub returns-in-Some-clause-steps : goal.returns-in-Some-clause-steps
returns-in-Some-clause-steps c =
    let inside = c.loop-self.self-inside in
    sym c.loop-self.invariant.0
    ∙ left_step inside.tree.now inside.config.now inside.w inside.members.now inside.at c.index-self-self.result c.verdict_uncounted-verdict.result c.unless_excluded.result c.loop-self-test.true c.verdict_uncounted-verdict.ensures c.unless_excluded.ensures
    ∙ ap (λ o. before_others o (found_left inside.tree.now inside.config.now inside.w (map encoding_of (drop (inside.at + 1) inside.members.now)))) c.in-Some.is

pub returns-in-Some-clause-goes : goal.returns-in-Some-clause-goes
returns-in-Some-clause-goes c =
    let fewer = ap (λ (l : List (LeafId × Truth)). length l) (returns-in-Some-clause-steps c) in
    record { on = λ _. (tt, tt, omega (arith, fewer)); keeps = tt; rests = λ _. tt }

pub loop-self-preserved : goal.loop-self-preserved
loop-self-preserved c =
    let inside = c.loop-self.self-inside in
    let rest = found_left inside.tree.now inside.config.now inside.w (map encoding_of (drop (inside.at + 1) inside.members.now)) in (
      sym (left_step inside.tree.now inside.config.now inside.w inside.members.now inside.at c.index-self-self.result c.verdict_uncounted-verdict.result c.unless_excluded.result c.loop-self-test.true c.verdict_uncounted-verdict.ensures c.unless_excluded.ensures
          ∙ ap (λ o. before_others o rest) c.in_default.is)
          ∙ c.loop-self.invariant.0,
      c.loop-self.invariant.1,
    )
