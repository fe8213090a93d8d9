-- A shelf in memory.
use Rattle.std.specs.Prelude.{◌≡◌, ℕ, List, length, None, Some, Ok, Err, IsOk, Option, Result, Vec, String, string_bytes, map, nat_lt, if◌then◌else◌}
use Rattle.std.specs.declared.alloc.Global.{Global}
use Rattle.mrs_io.specs.declared.fault.FetchFault.{FetchFault}
use Rattle.mrs_io.specs.declared.fault.FetchFault.TheVariants as fault
use Rattle.spec_io.specs.Documents.{Document, document_of}
use Rattle.mrs_io.specs.Calls.{CallState, is_listed, after_call}

-- the documents of a list of names and bytes
abbrev pub documents : List (String Global × Vec ℕ Global) → List Document
documents docs = map (λ doc. (string_bytes doc.0, doc.1.items)) docs

-- its documents, and its calls
pub record ShelfState : Type 0 where
  pub docs : List Document
  pub calls : CallState

-- the document, if there is one and it is within the limit
abbrev pub within_limit : ℕ → Option (List ℕ) → Result (List ℕ) FetchFault
within_limit limit None = Err fault.Failed
within_limit limit (Some bytes) = if nat_lt limit (length bytes) then Err fault.TooLong else Ok bytes

-- what the next fetch answers, unless memory runs out
abbrev pub fetch_answer : ShelfState → List ℕ → ℕ → Result (List ℕ) FetchFault
fetch_answer shelf name limit = if is_listed shelf.calls then Err fault.Failed else within_limit limit (document_of name shelf.docs)

-- the shelf after it
abbrev pub after_fetch : ShelfState → ShelfState
after_fetch shelf = record { docs = shelf.docs; calls = after_call shelf.calls (is_listed shelf.calls) }

-- The result is this answer, but that memory may run out where it is a document.
abbrev pub IsAnswered : Result (List ℕ) FetchFault → Result (Vec ℕ Global) FetchFault → Type 0
IsAnswered answer (Ok v) = answer ≡ Ok v.items
IsAnswered answer (Err fault.Failed) = answer ≡ Err fault.Failed
IsAnswered answer (Err fault.TooLong) = answer ≡ Err fault.TooLong
IsAnswered answer (Err fault.NoMemory) = IsOk answer
