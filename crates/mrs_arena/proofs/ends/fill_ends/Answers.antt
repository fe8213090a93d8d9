use Rattle.std.proofs.Common.{◌≡◌, ◌∙◌, ◌+◌, ◌-◌, ◌<◌, length, subst, ℕ, arith}
use Rattle.mrs_arena.specs.Inside.{HasEnds}
use Rattle.mrs_arena.proofs.FillLaws.{written-same, written-ends}
use Rattle.mrs_arena.proofs.ends.fill_ends.Goals as goal

pub end_after-end-requires-clause-behind : goal.end_after-end-requires-clause-behind
end_after-end-requires-clause-behind c =
    let next : c.nodes.n ≡ c.nodes.n - 1 + 1 = omega arith in
    subst (λ (from : ℕ). HasEnds c.nodes.nodes from) next c.nodes.invariant.ends

pub nodes-preserved : goal.nodes-preserved
nodes-preserved c =
    let next : c.nodes.n ≡ c.nodes.n - 1 + 1 = omega arith in
    let within : c.nodes.n - 1 < length c.nodes.nodes = omega arith in
    let behind = subst (λ (from : ℕ). HasEnds c.nodes.nodes from) next c.nodes.invariant.ends in
    record {
      same = written-same c.nodes.nodes (c.nodes.n - 1) _ c.end_after-end.result within ∙ c.nodes.invariant.same;
      ends = written-ends c.nodes.nodes (c.nodes.n - 1) _ c.end_after-end.result within behind c.end_after-end.ensures;
    }
