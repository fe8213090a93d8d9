use Rattle.std.proofs.Common.{◌≡◌, ◌==◌, drop, map, None}
use Rattle.std.specs.List.{position_from}
use Rattle.spec_encoding.specs.Parts.{is_too_wide}
use Rattle.spec_encoding.specs.Named.{parts}
use Rattle.insn_encode.specs.Views.{pair_of, shown_of}
use Rattle.insn_encode.proofs.GivenLaws.{IsGathered}
use Rattle.insn_encode.proofs.values.given_by.Given as goal

-- the bits given so far and those that the pairs that are left give are those that all pairs give
abbrev pub invariant-loop-i : goal.invariant-loop-i
invariant-loop-i l = record {
  fits : position_from is_too_wide l.i (parts (λ a b. a == b) (shown_of l.layout l.fields) (map pair_of (drop l.i l.pairs))) ≡ None;
  ones : IsGathered 1 l.given.ones (parts (λ a b. a == b) (shown_of l.layout l.fields) (map pair_of (drop l.i l.pairs))) (parts (λ a b. a == b) (shown_of l.layout l.fields) (map pair_of l.pairs));
  zeros : IsGathered 0 l.given.zeros (parts (λ a b. a == b) (shown_of l.layout l.fields) (map pair_of (drop l.i l.pairs))) (parts (λ a b. a == b) (shown_of l.layout l.fields) (map pair_of l.pairs));
}
