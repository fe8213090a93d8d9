use Rattle.std.proofs.Common.{◌≡◌, drop}
use Rattle.spec_refutation.specs.Derivation.{leads, derives}
use Rattle.feat_proof.proofs.derivation.follows.Given as goal

-- what the rest of the hints leads to is what all of them do
abbrev pub invariant-loop-place : goal.invariant-loop-place
invariant-loop-place l = leads l.known l.set (drop l.place l.hints) ≡ derives l.known l.step
