-- What a shelf answers for a name.
use Rattle.std.specs.Prelude.{◌≡◌, ◌⊎◌, ℕ, ◌<◌, ◌≤◌, List, length, None, Some, Ok, Err, Option, IfSome, IsSomeAnd, Result, Vec}
use Rattle.std.specs.declared.alloc.Global.{Global}
use Rattle.mrs_io.specs.declared.fault.FetchFault.{FetchFault}
use Rattle.mrs_io.specs.declared.fault.FetchFault.TheVariants as fault
use Rattle.spec_io.specs.Faults.{Rose}
use Rattle.spec_io.specs.Documents.{Document, document_of}

-- What a shelf answers to a fetch of `name`, as its count of faults goes from `before` to `now`. Of the documents, where it
-- tells them: the whole one of that name, within the limit; that this one is longer; or, if the count did not rise, that
-- there is none of that name. Memory may run out at any fetch. The count stays where it was unless the answer is `Failed`.
abbrev pub Fetched : Option (List Document) → List ℕ → ℕ → ℕ → ℕ → Result (Vec ℕ Global) FetchFault → Type 0
Fetched told name limit before now (Ok v) =
    IfSome told (λ docs. document_of name docs ≡ Some v.items) × (length v.items ≤ limit) × (now ≡ before)
Fetched told name limit before now (Err fault.TooLong) =
    IfSome told (λ docs. IsSomeAnd (document_of name docs) (λ bytes. limit < length bytes)) × (now ≡ before)
Fetched told name limit before now (Err fault.Failed) =
    Rose before now ⊎ IsSomeAnd told (λ docs. document_of name docs ≡ None)
Fetched told name limit before now (Err fault.NoMemory) = now ≡ before
