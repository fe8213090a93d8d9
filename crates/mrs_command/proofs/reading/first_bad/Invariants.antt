use Rattle.std.proofs.Common.{◌≡◌, ◌-◌, length, take, map, string_bytes, IsTrue}
use Rattle.std.specs.Prelude.{count_by}
use Rattle.std.specs.List.{list_all, find, range_with_len}
use Rattle.spec_command.specs.Words as spec
use Rattle.mrs_command.specs.Words.{is_setting}
use Rattle.mrs_command.specs.Commands.{verb_of}
use Rattle.mrs_command.proofs.reading.first_bad.Given as goal

abbrev pub invariant-loop-place : goal.invariant-loop-place
invariant-loop-place l = record {
  rest : find (spec.is_bad_at (verb_of l.verb).asks.keys (map string_bytes l.words)) (range_with_len l.place (length l.words - l.place)) ≡ spec.first_bad (verb_of l.verb).asks.keys (map string_bytes l.words);
  settings : IsTrue (list_all is_setting (map string_bytes (take l.place l.words)));
  pins : l.pins ≡ count_by spec.is_pin (map string_bytes (take l.place l.words));
}
