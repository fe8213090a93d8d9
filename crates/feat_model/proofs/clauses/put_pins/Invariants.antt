use Rattle.std.proofs.Common.{◌≡◌, ◌++◌, drop, nat_eq, is_none}
use Rattle.std.specs.List.{filter_map, position, position_from}
use Rattle.spec_features.specs.Clauses.{pin_clause}
use Rattle.spec_features.specs.Fits.{unknown_pin}
use Rattle.feat_model.proofs.clauses.put_pins.Given as goal

abbrev pub invariant-loop-k : goal.invariant-loop-k
invariant-loop-k l = record {
  clauses : l.encoder.clauses.items ++ filter_map (pin_clause nat_eq l.model.names) (drop l.k l.pins) ≡ l.initial.encoder.clauses.items ++ filter_map (pin_clause nat_eq l.model.names) l.pins;
  last : l.encoder.last ≡ l.initial.encoder.last;
  known : position_from (λ pin. is_none (position (nat_eq pin.0) l.model.names)) l.k (drop l.k l.pins) ≡ unknown_pin nat_eq l.model.names l.pins;
}
