-- A document is fetched, and what its bytes give is what the document gives.
use Rattle.std.proofs.Common.{◌≡◌, ◌∙◌, refl, sym, ap, ℕ, List, length, Bool, true, false, Option, Some, None, IfSome, Result, Ok, Err, nat_lt}
use Rattle.std.specs.Prelude.{if◌then◌else◌}
use Rattle.spec_io.specs.Documents.{Document as Named}
use Rattle.spec_io.specs.States.{Shelving}
use Rattle.spec_run.specs.Kinds.{DocumentKind}
use Rattle.spec_run.specs.Documents.{under_names}
use Rattle.spec_run.specs.Opening as opening
use Rattle.spec_run.specs.Opening.{◌then◌, by_bytes, by_value, json_in, document_read, document_limit}
use Rattle.spec_run.specs.Opens.{DocumentsGive}
use Rattle.release_opening.specs.declared.opening_error.OpeningError.{OpeningError}
use Rattle.release_opening.specs.Opens.{Opens}
use Rattle.release_opening.proofs.Then.{fails, opens_other}

through : {A : Type 0} (kind : DocumentKind) (made : List ℕ → Result A opening.OpeningError) (document : Option (List ℕ)) → (by_bytes kind Ok document then made) ≡ by_bytes kind made document
through kind made None = refl
through {A} kind made (Some bytes) = go (nat_lt document_limit (length bytes))
  where
    go : (b : Bool) → ((if b then Err (opening.TooLong kind) else Ok bytes) then made) ≡ (if b then Err (opening.TooLong kind) else made bytes)
    go true = refl
    go false = refl

module _ {A : Type 0} (kind : DocumentKind) (made : List ℕ → Result A opening.OpeningError) (name : List ℕ) (shelf after : Shelving) where
  -- what keeps the bytes away keeps away what is made of them
  pub unopened : (e : OpeningError) → Opens (λ docs. by_bytes kind Ok (docs kind name)) shelf after (Err e) → Opens (λ docs. by_bytes kind made (docs kind name)) shelf after (Err e)
  unopened e h =
      opens_other (λ docs. by_bytes kind Ok (docs kind name) then made) (λ docs. by_bytes kind made (docs kind name)) (λ docs. through kind made (docs kind name)) shelf after (Err e)
      (fails (λ docs. by_bytes kind Ok (docs kind name)) (λ bytes docs. made bytes) shelf after e h)

  -- where the bytes are there, they decide
  pub read_so : (bytes : List ℕ) (r : Result A opening.OpeningError) → Opens (λ docs. by_bytes kind Ok (docs kind name)) shelf after (Ok bytes) → made bytes ≡ r
      → DocumentsGive (λ docs. by_bytes kind made (docs kind name)) shelf after r
  read_so bytes r h is = go shelf.documents h.0
    where
      go : (told : Option (List Named)) → IfSome told (λ docs. by_bytes kind Ok (under_names docs kind name) ≡ Ok bytes) → IfSome told (λ docs. by_bytes kind made (under_names docs kind name) ≡ r)
      go None k = k
      go (Some docs) k = sym (through kind made (under_names docs kind name)) ∙ ap (λ found. found then made) k ∙ is
