-- Worked values of the definitions.
use Rattle.std.proofs.Common.{◌≡◌, ◌-◌, ◌^◌, List, [], ◌∷◌, Some, None, Ok, Err, refl}
use Rattle.std.specs.Prelude.{codes}
use Rattle.mrs_io.specs.declared.fault.FetchFault.TheVariants as fault
use Rattle.spec_io.specs.Faults.{next_count}
use Rattle.spec_io.specs.Documents.{Document, document_of}
use Rattle.mrs_io.specs.Calls.{first_call}
use Rattle.mrs_io.specs.MemShelf.{within_limit}
use Rattle.mrs_io.specs.MemSource.{SourceState, read_answer, after_read}
use Rattle.mrs_io.specs.MemSink.{SinkState, write_answer, after_write}

-- the count stands still at its last value
last_count : next_count (2 ^ 64 - 1) ≡ 2 ^ 64 - 1
last_count = refl

-- two documents of one name
abbrev twins : List Document
twins = (codes "i", codes "one") ∷ (codes "i", codes "two") ∷ []

first_of_a_name : document_of (codes "i") twins ≡ Some (codes "one")
first_of_a_name = refl

name_not_held : document_of (codes "f") twins ≡ None
name_not_held = refl

at_the_limit : within_limit 3 (Some (codes "one")) ≡ Ok (codes "one")
at_the_limit = refl

past_the_limit : within_limit 2 (Some (codes "one")) ≡ Err fault.TooLong
past_the_limit = refl

-- three bytes a call, of which the call numbered 1 fails
abbrev slow_source : SourceState
slow_source = record { left = codes "hello"; most = 3; calls = first_call (1 ∷ []) }

short_read : read_answer slow_source 4 ≡ Ok 3
short_read = refl

listed_read : read_answer (after_read slow_source 4) 4 ≡ Err (record {})
listed_read = refl

rest_of_reads : (after_read (after_read (after_read slow_source 4) 4) 4).left ≡ []
rest_of_reads = refl

-- room for four bytes, three a call
abbrev small_sink : SinkState
small_sink = record { taken = []; room = 4; most = 3; calls = first_call [] }

rest_of_room : write_answer (after_write small_sink (codes "hello")) 5 ≡ Ok 1
rest_of_room = refl

no_room : write_answer (after_write (after_write small_sink (codes "hello")) (codes "lo")) 1 ≡ Err (record {})
no_room = refl
