use Rattle.std.proofs.Common.{◌≡◌, ◌∙◌, sym, ap, subst, Some, Option, option_map, map, ◌∷◌, length, arith}
use Rattle.mrs_arena.specs.declared.node_id.NodeId.{NodeId}
use Rattle.mrs_arena.specs.Paths.{path_up}
use Rattle.mrs_arena.specs.Inside.{parent_of, IsPathFrom}
use Rattle.mrs_arena.proofs.ClosedLaws.{IsPathFrom-parent, path_up-step}
use Rattle.mrs_arena.proofs.path.PathIterator.next.Goals as goal

-- the path goes on with the node that is given
from : (c : goal.After-self-1) → IsPathFrom c.self.inside.nodes.now (Some c.in_ok-node.node)
from c = subst (λ (next : Option NodeId). IsPathFrom c.self.inside.nodes.now next) c.in_ok-node.was c.self.invariant

pub invariant_of-self : goal.invariant_of-self
invariant_of-self c = IsPathFrom-parent c.self.inside.nodes.now c.in_ok-node.node c.parent_at-self-inside.result (from c) c.parent_at-self-inside.ensures

steps : (c : goal.After-self-1) → c.args.self.now ≡ c.in_ok-node.node.0 ∷ path_up (map parent_of c.self.inside.nodes.now) (option_map (λ p. p.0) c.parent_at-self-inside.result)
steps c =
    sym c.self.view_is ∙ ap (λ next. path_up (map parent_of c.self.inside.nodes.now) (option_map (λ n. n.0) next)) c.in_ok-node.was
    ∙ path_up-step c.self.inside.nodes.now c.in_ok-node.node c.parent_at-self-inside.result (from c) c.parent_at-self-inside.ensures

pub returns-clause-steps : goal.returns-clause-steps
returns-clause-steps c = steps c

pub returns-clause-goes : goal.returns-clause-goes
returns-clause-goes c =
    record {
      on = λ _. (tt, tt, omega (arith, ap length (steps c)));
      keeps = tt;
      rests = λ _. tt;
    }
