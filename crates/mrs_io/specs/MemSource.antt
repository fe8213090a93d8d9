-- A source in memory.
use Rattle.std.specs.Prelude.{ℕ, List, length, drop, min, Ok, Err, Result, if◌then◌else◌}
use Rattle.mrs_io.specs.declared.fault.Failed.{Failed}
use Rattle.mrs_io.specs.Calls.{CallState, is_listed, after_call}

-- the bytes that are left, the most that one call gives, and its calls
pub record SourceState : Type 0 where
  pub left : List ℕ
  pub most : ℕ
  pub calls : CallState

-- how many bytes the next read gives: none if it fails, else as many as the buffer, `most` and what is left allow
abbrev pub read_count : SourceState → ℕ → ℕ
read_count source room = if is_listed source.calls then 0 else min (min room source.most) (length source.left)

-- what the next read answers
abbrev pub read_answer : SourceState → ℕ → Result ℕ Failed
read_answer source room = if is_listed source.calls then Err (record {}) else Ok (read_count source room)

-- the source after it
abbrev pub after_read : SourceState → ℕ → SourceState
after_read source room = record {
  left = drop (read_count source room) source.left;
  most = source.most;
  calls = after_call source.calls (is_listed source.calls);
}
