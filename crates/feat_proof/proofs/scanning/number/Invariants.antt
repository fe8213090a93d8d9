use Rattle.std.proofs.Common.{◌≡◌, ◌<◌, ◌^◌, ◌++◌, length}
use Rattle.std.specs.Prelude.{decimal}
use Rattle.feat_proof.proofs.scanning.number.Given as goal

-- what is read so far, and what is left
abbrev pub invariant-digits : goal.invariant-digits
invariant-digits l = record {
  some : 0 < l.number;
  fits : l.number < 2 ^ 64;
  read : l.text ≡ decimal l.number ++ l.rest;
}

abbrev pub decreases-digits : goal.decreases-digits
decreases-digits l = length l.rest
