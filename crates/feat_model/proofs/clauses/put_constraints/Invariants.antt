use Rattle.std.proofs.Common.{◌≡◌, ◌++◌, map, drop}
use Rattle.spec_features.specs.Clauses.{constraints_from, last_of}
use Rattle.feat_model.specs.Views.{formula_of}
use Rattle.feat_model.specs.Encodes.{HasRoomForAll}
use Rattle.feat_model.proofs.clauses.put_constraints.Given as goal

abbrev pub invariant-loop-constraint : goal.invariant-loop-constraint
invariant-loop-constraint l = record {
  clauses : l.encoder.clauses.items ++ constraints_from l.encoder.last (map formula_of (drop l.constraint-index l.constraints))
      ≡ l.initial.encoder.clauses.items ++ constraints_from l.initial.encoder.last (map formula_of l.constraints);
  last : last_of l.encoder.last (map formula_of (drop l.constraint-index l.constraints)) ≡ last_of l.initial.encoder.last (map formula_of l.constraints);
  room : HasRoomForAll l.encoder.last (map formula_of (drop l.constraint-index l.constraints));
}
