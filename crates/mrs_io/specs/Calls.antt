-- The calls of an object in memory, which are numbered from 0.
use Rattle.std.specs.Prelude.{ℕ, Bool, List, ◌==◌, if◌then◌else◌}
use Rattle.std.specs.List.{list_any}
use Rattle.spec_io.specs.Faults.{next_count}

-- the number of the next call, the numbers of the calls that fail, and the count of faults; a number past the largest
-- of 64 bits stays there, and no list of numbers of 32 bits has it
pub record CallState : Type 0 where
  pub next : ℕ
  pub fails : List ℕ
  pub count : ℕ

-- before the first call
abbrev pub first_call : List ℕ → CallState
first_call fails = record { next = 0; fails = fails; count = 0 }

-- the next call is one of those that fail
abbrev pub is_listed : CallState → Bool
is_listed calls = list_any (λ number. number == calls.next) calls.fails

-- after a call: its number is one more, and so is the count of faults where the call failed
abbrev pub after_call : CallState → Bool → CallState
after_call calls failed =
    record { next = next_count calls.next; fails = calls.fails; count = if failed then next_count calls.count else calls.count }
