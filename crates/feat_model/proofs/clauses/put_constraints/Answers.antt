use Rattle.std.proofs.Common.{◌∙◌}
use Rattle.feat_model.proofs.Steps.{left_at, first_room, rest_room, rest_clauses, rest_last}
use Rattle.feat_model.proofs.clauses.put_constraints.Goals as goal

pub put_constraint-requires : goal.put_constraint-requires
put_constraint-requires c =
    first_room _ _ _ _ (left_at c.args.constraints.now c.loop-constraint.constraint-index c.constraint-item.result c.loop-constraint-test.true c.constraint-item.is) c.loop-constraint.invariant.room

pub loop-constraint-preserved : goal.loop-constraint-preserved
loop-constraint-preserved c =
    let left = left_at c.args.constraints.now c.loop-constraint.constraint-index c.constraint-item.result c.loop-constraint-test.true c.constraint-item.is in
    record {
      clauses = rest_clauses _ _ _ _ _ _ _ left c.in_ok-put_constraint.ensures.last c.in_ok-put_constraint.ensures.clauses ∙ c.loop-constraint.invariant.clauses;
      last = rest_last _ _ _ _ _ left c.in_ok-put_constraint.ensures.last ∙ c.loop-constraint.invariant.last;
      room = rest_room _ _ _ _ _ left c.in_ok-put_constraint.ensures.last c.loop-constraint.invariant.room;
    }
