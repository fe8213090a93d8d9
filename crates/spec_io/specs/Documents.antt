-- Documents that stand under names.
use Rattle.std.specs.Prelude.{ℕ, List, [], ◌∷◌, Option, Some, None, if◌then◌else◌, bytes_eq}

-- a document: its name, and its bytes
abbrev pub Document : Type 0
Document = List ℕ × List ℕ

-- the bytes of the first document of that name
abbrev pub document_of : List ℕ → List Document → Option (List ℕ)
document_of name [] = None
document_of name (doc ∷ docs) = if bytes_eq doc.0 name then Some doc.1 else document_of name docs
