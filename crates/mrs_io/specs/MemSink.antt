-- A sink in memory.
use Rattle.std.specs.Prelude.{ℕ, ◌-◌, ◌==◌, ◌||◌, ◌&&◌, ◌++◌, Bool, List, length, take, min, not, Ok, Err, Result, if◌then◌else◌}
use Rattle.mrs_io.specs.declared.fault.Failed.{Failed}
use Rattle.mrs_io.specs.Calls.{CallState, is_listed, after_call}

-- the bytes that it has taken, the room that is left, the most that one call takes, and its calls
pub record SinkState : Type 0 where
  pub taken : List ℕ
  pub room : ℕ
  pub most : ℕ
  pub calls : CallState

-- the next write of so many bytes fails: it is listed, or there are bytes and no room is left
abbrev pub refuses : SinkState → ℕ → Bool
refuses sink size = is_listed sink.calls || (not (size == 0) && sink.room == 0)

-- how many bytes it takes: none if it fails, else as many as the piece, `most` and the room left allow
abbrev pub write_count : SinkState → ℕ → ℕ
write_count sink size = if refuses sink size then 0 else min (min size sink.most) sink.room

-- what the next write answers
abbrev pub write_answer : SinkState → ℕ → Result ℕ Failed
write_answer sink size = if refuses sink size then Err (record {}) else Ok (write_count sink size)

-- the sink after it
abbrev pub after_write : SinkState → List ℕ → SinkState
after_write sink bytes = record {
  taken = sink.taken ++ take (write_count sink (length bytes)) bytes;
  room = sink.room - write_count sink (length bytes);
  most = sink.most;
  calls = after_call sink.calls (refuses sink (length bytes));
}
