use Rattle.std.proofs.Common.{map, string_bytes}
use Rattle.mrs_command.specs.Commands.{verb_of, asked_of}
use Rattle.mrs_command.proofs.Said.{said_by}
use Rattle.mrs_command.proofs.reading.read_command.Goals as goal

pub new-requires : goal.new-requires
new-requires c = (
  map string_bytes c.args.words.now,
  said_by c.args.words.now c.first-item.result c.as_str.result.now (verb_of c.in-Some.verb) c.new-pairs.result (asked_of c.in-Some-request.field-0)
      c.in-len1-up.len_at_least c.first-item.is c.as_str.ensures.value c.in-Some.ensures c.in_default-first_bad.ensures.place c.new-pairs.ensures c.in-Some-request.ensures.asked,
)
