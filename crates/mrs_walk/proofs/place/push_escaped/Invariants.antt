use Rattle.std.proofs.Common.{◌≡◌, ◌++◌, string_bytes}
use Rattle.std.specs.Str.Iter.{chars_rest}
use Rattle.spec_walk.specs.Pointer.{escaped}
use Rattle.mrs_walk.proofs.place.push_escaped.Given as goal

abbrev pub invariant-loop-c : goal.invariant-loop-c
invariant-loop-c l = string_bytes l.out ++ escaped (chars_rest l.c-iterator) ≡ string_bytes l.fn.out ++ escaped l.name
