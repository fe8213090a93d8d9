use Rattle.std.proofs.Common.{◌≡◌, ◌++◌, drop}
use Rattle.std.specs.Prelude.{option_to_list}
use Rattle.spec_refutation.specs.Derivation.{the_only, open_literals}
use Rattle.feat_proof.proofs.derivation.only_open.Given as goal

abbrev pub invariant-loop-lit : goal.invariant-loop-lit
invariant-loop-lit l = the_only (option_to_list l.open ++ open_literals l.set (drop l.lit-index l.clause)) ≡ the_only (open_literals l.set l.clause)
