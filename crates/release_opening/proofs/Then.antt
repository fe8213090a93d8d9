-- Something is opened, and then something by it.
use Rattle.std.proofs.Common.{◌≡◌, ◌∙◌, refl, sym, ap, subst, List, Option, Some, None, IfSome, Result, Ok, Err, inl, inr}
use Rattle.std.specs.Prelude.{IsSomeAnd}
use Rattle.spec_io.specs.Documents.{Document as Named}
use Rattle.spec_io.specs.Faults.{Rose}
use Rattle.spec_io.specs.States.{Shelving}
use Rattle.spec_run.specs.Opening as opening
use Rattle.spec_run.specs.Opening.{◌then◌}
use Rattle.release_opening.specs.declared.opening_error.OpeningError.{OpeningError}
use Rattle.release_opening.specs.declared.opening_error.OpeningError.TheVariants as error
use Rattle.release_opening.specs.Documents.{which_of, fault_of}
use Rattle.release_opening.specs.Opens.{Opens}
use Rattle.release_opening.specs.Stages.{Comes}

module _ {A B : Type 0} (first : List Named → Result A opening.OpeningError) (next : A → List Named → Result B opening.OpeningError) where
  abbrev both : List Named → Result B opening.OpeningError
  both docs = first docs then λ x. next x docs

  gives : (x : A) (told : Option (List Named)) (r : Result B opening.OpeningError) → IfSome told (λ docs. first docs ≡ Ok x) → IfSome told (λ docs. next x docs ≡ r) → IfSome told (λ docs. both docs ≡ r)
  gives x None r h k = k
  gives x (Some docs) r h k = ap (λ found. found then λ y. next y docs) h ∙ k

  gives_some : (x : A) (told : Option (List Named)) (r : Result B opening.OpeningError) → IfSome told (λ docs. first docs ≡ Ok x) → IsSomeAnd told (λ docs. next x docs ≡ r) → IsSomeAnd told (λ docs. both docs ≡ r)
  gives_some x None r h k = k
  gives_some x (Some docs) r h k = ap (λ found. found then λ y. next y docs) h ∙ k

  lacks : (told : Option (List Named)) (e : opening.OpeningError) → IfSome told (λ docs. first docs ≡ Err e) → IfSome told (λ docs. both docs ≡ Err e)
  lacks None e h = h
  lacks (Some docs) e h = ap (λ found. found then λ y. next y docs) h

  lacks_some : (told : Option (List Named)) (e : opening.OpeningError) → IsSomeAnd told (λ docs. first docs ≡ Err e) → IsSomeAnd told (λ docs. both docs ≡ Err e)
  lacks_some None e h = h
  lacks_some (Some docs) e h = ap (λ found. found then λ y. next y docs) h

  -- where the first is not opened, nothing is
  pub fails : (shelf after : Shelving) (e : OpeningError) → Opens first shelf after (Err e) → Opens both shelf after (Err e)
  fails shelf after (error.NotRead w) h =
      elim h [
        | inl rose ↦ inl rose
        | inr none ↦ inr (lacks_some shelf.documents (opening.NotRead (which_of w)) none)
      ]
  fails shelf after (error.TooLong w) h = (lacks shelf.documents (opening.TooLong (which_of w)) h.0, h.1)
  fails shelf after (error.Refused w fault) h = (lacks shelf.documents (opening.Refused (which_of w) (fault_of fault)) h.0, h.1)
  fails shelf after (error.UnknownPin pin) h = (lacks shelf.documents (opening.UnknownPin pin) h.0, h.1)
  fails shelf after (error.NoneFits cnf log) h = ((lacks shelf.documents (opening.NoneFits cnf.0 cnf.1) h.0.0, h.0.1), h.1, h.2)
  fails shelf after error.NoMemory h = h

  module _ (shelf between after : Shelving) (x : A) (same : between.documents ≡ shelf.documents) (h : Opens first shelf between (Ok x)) where
    told_again : (r : Result B opening.OpeningError) → IfSome between.documents (λ docs. next x docs ≡ r) → IfSome shelf.documents (λ docs. both docs ≡ r)
    told_again r k = gives x shelf.documents r h.0 (subst (λ told. IfSome told (λ docs. next x docs ≡ r)) same k)

    -- where the first is opened, the next decides
    pub opens : (r : Result B OpeningError) → Opens (next x) between after r → Opens both shelf after r
    opens (Ok y) k = (told_again (Ok y) k.0, k.1 ∙ h.1)
    opens (Err (error.NotRead w)) k =
        elim k [
          | inl rose ↦ inl (subst (λ n. Rose n after.faults) h.1 rose)
          | inr none ↦ inr (gives_some x shelf.documents (Err (opening.NotRead (which_of w))) h.0 (subst (λ told. IsSomeAnd told (λ docs. next x docs ≡ Err (opening.NotRead (which_of w)))) same none))
        ]
    opens (Err (error.TooLong w)) k = (told_again (Err (opening.TooLong (which_of w))) k.0, k.1 ∙ h.1)
    opens (Err (error.Refused w fault)) k = (told_again (Err (opening.Refused (which_of w) (fault_of fault))) k.0, k.1 ∙ h.1)
    opens (Err (error.UnknownPin pin)) k = (told_again (Err (opening.UnknownPin pin)) k.0, k.1 ∙ h.1)
    opens (Err (error.NoneFits cnf log)) k = ((told_again (Err (opening.NoneFits cnf.0 cnf.1)) k.0.0, k.0.1 ∙ h.1), k.1, k.2)
    opens (Err error.NoMemory) k = k ∙ h.1

-- ---- the same by other words

module _ {A : Type 0} (given other : List Named → Result A opening.OpeningError) (same : (docs : List Named) → given docs ≡ other docs) where
  gives_other : (told : Option (List Named)) (r : Result A opening.OpeningError) → IfSome told (λ docs. given docs ≡ r) → IfSome told (λ docs. other docs ≡ r)
  gives_other None r h = h
  gives_other (Some docs) r h = sym (same docs) ∙ h

  gives_other_some : (told : Option (List Named)) (r : Result A opening.OpeningError) → IsSomeAnd told (λ docs. given docs ≡ r) → IsSomeAnd told (λ docs. other docs ≡ r)
  gives_other_some None r h = h
  gives_other_some (Some docs) r h = sym (same docs) ∙ h

  pub opens_other : (shelf after : Shelving) (r : Result A OpeningError) → Opens given shelf after r → Opens other shelf after r
  opens_other shelf after (Ok x) h = (gives_other shelf.documents (Ok x) h.0, h.1)
  opens_other shelf after (Err (error.NotRead w)) h =
      elim h [
        | inl rose ↦ inl rose
        | inr none ↦ inr (gives_other_some shelf.documents (Err (opening.NotRead (which_of w))) none)
      ]
  opens_other shelf after (Err (error.TooLong w)) h = (gives_other shelf.documents (Err (opening.TooLong (which_of w))) h.0, h.1)
  opens_other shelf after (Err (error.Refused w fault)) h = (gives_other shelf.documents (Err (opening.Refused (which_of w) (fault_of fault))) h.0, h.1)
  opens_other shelf after (Err (error.UnknownPin pin)) h = (gives_other shelf.documents (Err (opening.UnknownPin pin)) h.0, h.1)
  opens_other shelf after (Err (error.NoneFits cnf log)) h = ((gives_other shelf.documents (Err (opening.NoneFits cnf.0 cnf.1)) h.0.0, h.0.1), h.1, h.2)
  opens_other shelf after (Err error.NoMemory) h = h

-- ---- what needs no document

pub always : {P : Type 0} (told : Option (List Named)) → P → IfSome told (λ docs. P)
always None h = tt
always (Some docs) h = h

pub settled : {A : Type 0} (given : Result A opening.OpeningError) (shelf : Shelving) (r : Result A OpeningError) → Comes given r → Opens (λ docs. given) shelf shelf r
settled given shelf (Ok x) h = (always shelf.documents h, refl)
settled given shelf (Err (error.NotRead w)) h = absurd h
settled given shelf (Err (error.TooLong w)) h = absurd h
settled given shelf (Err (error.Refused w fault)) h = absurd h
settled given shelf (Err (error.UnknownPin pin)) h = (always shelf.documents h, refl)
settled given shelf (Err (error.NoneFits cnf log)) h = ((always shelf.documents h.0, refl), h.1, h.2)
settled given shelf (Err error.NoMemory) h = refl
