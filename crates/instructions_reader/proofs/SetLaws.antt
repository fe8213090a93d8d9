-- Laws of the walk over the sets of a document.
use Rattle.std.proofs.Common.{◌≡◌, ◌∙◌, sym, ap, refl, ℕ, ◌+◌, ◌<◌, ◌≤◌, Bool, true, false, ◌||◌, ◌&&◌, List, [], ◌∷◌, ◌++◌, length, get_or, Option, Some, None, Err}
use Rattle.std.specs.Prelude.{is_some, ⊤}
use Rattle.serde_json.specs.View.{view, items_view}
use Rattle.serde_json.specs.declared.value.Value.{Value}
use Rattle.spec_walk.specs.Pointer.{element}
use Rattle.spec_walk.specs.Event.{NoSet}
use Rattle.spec_walk.specs.Limits.{Counts}
use Rattle.spec_walk.specs.Walk.{Walk, Done, ◌>>>◌, gives}
use Rattle.spec_walk.specs.Spot.{Spot, spot, wrong, needs, kind, elements, each}
use Rattle.spec_walk.proofs.WalkLaws.{gives-next}
use Rattle.spec_instructions.specs.Kind.{Kind, Set, kind_named}
use Rattle.spec_instructions.specs.Tree.{Node}
use Rattle.spec_instructions.specs.Walk.{chosen_in, is_chosen, set_of, set}
use Rattle.mrs_names.specs.Texts.{IsExtended}
use Rattle.mrs_names.proofs.PlaceLaws.{IsExtended-refl, IsExtended-trans}
use Rattle.mrs_arena.specs.Placed.{preorder}
use Rattle.mrs_walk.specs.Gives.{Gives, Fails, Ends}
use Rattle.mrs_walk.specs.declared.fault.ReadFault.{ReadFault}
use Rattle.mrs_walk.proofs.AnswerLaws.{Fails-made, Fails-same, Fails-then}
use Rattle.mrs_walk.proofs.EachLaws.{EachRead, EachRead-none, EachRead-next, EachRead-fails, EachRead-all}
use Rattle.schema_draft.specs.Drafted.{Drafted, counts}
use Rattle.instructions_reader.specs.Nodes.{whole, put_set, IsSetPut}

-- ---- one set

-- a set whose kind and name are read
pub set_is : (isa : List ℕ) (before : List (Option Node)) (here : Spot) (k : Kind) (chosen : Bool) → kind (kind_named (Set ∷ [])) here ≡ Done k → is_chosen isa before here ≡ Done chosen → set isa before here ≡ set_of here chosen
set_is isa before here k chosen is_set is =
    ap (λ (w : Walk Kind). w >>> λ _. is_chosen isa before here >>> set_of here) is_set
    ∙ ap (λ (w : Walk Bool). w >>> set_of here) is

-- the chosen set is put
pub set_returns : (old new : Drafted) (isa : List ℕ) (before : List (Option Node)) (here : Spot) (k : Kind) (found : Bool) → kind (kind_named (Set ∷ [])) here ≡ Done k → is_chosen isa before here ≡ Done true → (found && true) ≡ false → (found ≡ false → old.nodes ≡ [])
    → Ends (whole Set 0 here) (counts old) (counts new) (λ n. new.nodes ≡ old.nodes ++ preorder None (length old.nodes) n) → Ends (set isa before here) (counts old) (counts new) (λ n. IsSetPut found true old.nodes new.nodes n)
set_returns old new isa before here k found is_set is once bare e = record {
  value = Some e.value;
  walked = ap (λ w. gives w (counts old)) (set_is isa before here k true is_set is) ∙ gives-next (whole Set 0 here) (λ n. Done (Some n)) (counts old) (counts new) e.value e.walked;
  stands = record { is = refl; once = once; nodes = e.stands ∙ ap (λ nodes. nodes ++ preorder None (length nodes) e.value) (bare (first found once)) };
}
  where
    first : (b : Bool) → (b && true) ≡ false → b ≡ false
    first false h = refl
    first true h = absurd (cc)

-- ---- the loop

abbrev first_of : Option Node → Option Node → Option Node
first_of None n = n
first_of (Some m) n = Some m

chosen_in-more : (sets : List (Option Node)) (n : Option Node) → chosen_in (sets ++ n ∷ []) ≡ first_of (chosen_in sets) n
chosen_in-more [] None = refl
chosen_in-more [] (Some m) = refl
chosen_in-more (None ∷ sets) n = chosen_in-more sets n
chosen_in-more (Some m ∷ sets) n = refl

-- how far the sets are read
pub record SetsRead (isa at : List ℕ) (found : Bool) (old now : Drafted) (i : ℕ) (vs : List Value) : Type 0 where
  pub sets : List (Option Node)
  pub each : EachRead (set isa) at sets (counts old) (counts now) i vs
  pub found_is : is_some (chosen_in sets) ≡ found
  pub put : now.nodes ≡ put_set (chosen_in sets) []
  pub kept : IsExtended old.names now.names

pub SetsRead-none : (isa at : List ℕ) (old : Drafted) (vs : List Value) → old.nodes ≡ [] → SetsRead isa at false old old 0 vs
SetsRead-none isa at old vs none = record { sets = []; each = EachRead-none _ at (counts old) vs; found_is = refl; put = none; kept = IsExtended-refl old.names }

-- nothing is put before the chosen set
pub SetsRead-bare : {isa at : List ℕ} {found : Bool} {old now : Drafted} {i : ℕ} {vs : List Value} → SetsRead isa at found old now i vs → found ≡ false → now.nodes ≡ []
SetsRead-bare {isa} {at} {found} {old} {now} r none = go (chosen_in r.sets) (r.found_is ∙ none) r.put
  where
    go : (o : Option Node) → is_some o ≡ false → now.nodes ≡ put_set o [] → now.nodes ≡ []
    go None is put = put
    go (Some n) is put = absurd (cc)

found-next : (o n : Option Node) (found chosen : Bool) → is_some o ≡ found → chosen ≡ is_some n → is_some (first_of o n) ≡ (found || chosen)
found-next None n found chosen is same = sym same ∙ ap (λ b. b || chosen) is
found-next (Some m) n found chosen is same = ap (λ b. b || chosen) is

put-next : (o n : Option Node) (found chosen : Bool) → is_some o ≡ found → chosen ≡ is_some n → (found && chosen) ≡ false → put_set n (put_set o []) ≡ put_set (first_of o n) []
put-next None None found chosen is same once = refl
put-next None (Some m) found chosen is same once = refl
put-next (Some m) None found chosen is same once = refl
put-next (Some m) (Some l) found chosen is same once = absurd (let both : (true && true) ≡ false = ap (λ b. b && true) is ∙ ap (λ b. found && b) (sym same) ∙ once in cc)

pub SetsRead-next : {isa at : List ℕ} {found : Bool} {old now : Drafted} {i : ℕ} {vs : List Value} → (r : SetsRead isa at found old now i vs) → (v : Value) → i < length vs → v ≡ get_or vs i v → (here : Spot) → here ≡ spot (element at i) (view v) → (new : Drafted) (chosen : Bool)
    → Ends (set isa r.sets here) (counts now) (counts new) (λ n. IsSetPut found chosen now.nodes new.nodes n) → (later : Bool) → later ≡ (found || chosen) → IsExtended now.names new.names → SetsRead isa at later old new (i + 1) vs
SetsRead-next {isa} {at} {found} {old} {now} {i} {vs} r v within is here at_it new chosen e later so kept = record {
  sets = r.sets ++ e.value ∷ [];
  each = EachRead-next r.each v within is here at_it e.value (counts new) e.walked;
  found_is = ap is_some (chosen_in-more r.sets e.value) ∙ found-next (chosen_in r.sets) e.value found chosen r.found_is e.stands.is ∙ sym so;
  put =
      e.stands.nodes ∙ ap (put_set e.value) r.put ∙ put-next (chosen_in r.sets) e.value found chosen r.found_is e.stands.is e.stands.once
      ∙ ap (λ o. put_set o []) (sym (chosen_in-more r.sets e.value));
  kept = IsExtended-trans old.names now.names new.names r.kept kept;
}

pub SetsRead-fails : {isa at : List ℕ} {found : Bool} {old now : Drafted} {i : ℕ} {vs : List Value} → (r : SetsRead isa at found old now i vs) → (v : Value) → i < length vs → v ≡ get_or vs i v → (here : Spot) → here ≡ spot (element at i) (view v) → (f : ReadFault)
    → Fails f (gives (set isa r.sets here) (counts now)) → Fails f (gives (each (set isa) at [] (items_view vs)) (counts old))
SetsRead-fails r v within is here at_it f h = EachRead-fails r.each v within is here at_it f h

-- ---- an array of sets

abbrev chosen_set : Spot → List (Option Node) → Walk Node
chosen_set here found = needs (chosen_in found) here NoSet

abbrev pub sets_walk : List ℕ → Spot → Walk Node
sets_walk isa here = elements here >>> each (set isa) here.at [] >>> chosen_set here

sets_are : (isa : List ℕ) (here : Spot) (vs : List Value) → elements here ≡ Done (items_view vs) → sets_walk isa here ≡ each (set isa) here.at [] (items_view vs) >>> chosen_set here
sets_are isa here vs is = ap (λ w. w >>> each (set isa) here.at [] >>> chosen_set here) is

pub sets_fail : (f : ReadFault) (isa : List ℕ) (here : Spot) (vs : List Value) (c : Counts) → elements here ≡ Done (items_view vs) → Fails f (gives (each (set isa) here.at [] (items_view vs)) c) → Fails f (gives (sets_walk isa here) c)
sets_fail f isa here vs c is fails = Fails-same f _ _ (ap (λ w. gives w c) (sets_are isa here vs is)) (Fails-then f (each (set isa) here.at [] (items_view vs)) (chosen_set here) c fails)

sets_end : {isa : List ℕ} (here : Spot) {found : Bool} {old now : Drafted} {i : ℕ} {vs : List Value} → elements here ≡ Done (items_view vs) → (r : SetsRead isa here.at found old now i vs) → length vs ≤ i → gives (sets_walk isa here) (counts old) ≡ gives (chosen_set here r.sets) (counts now)
sets_end {isa} here {found} {old} {now} {i} {vs} is r past =
    ap (λ w. gives w (counts old)) (sets_are isa here vs is)
    ∙ gives-next (each (set isa) here.at [] (items_view vs)) (chosen_set here) (counts old) (counts now) r.sets (EachRead-all r.each past)

-- none is chosen
pub sets_lack : {isa : List ℕ} (here : Spot) {found : Bool} {old now : Drafted} {i : ℕ} {vs : List Value} → elements here ≡ Done (items_view vs) → SetsRead isa here.at found old now i vs → length vs ≤ i → found ≡ false
    → (f : ReadFault) → Gives {T = ⊤} {A = ⊤} (Err f) (wrong here NoSet) (λ x. x) → Fails f (gives (sets_walk isa here) (counts old))
sets_lack {isa} here {found} {old} {now} is r past none f made = Fails-made f here NoSet _ made (sets_end here is r past ∙ go (chosen_in r.sets) (r.found_is ∙ none))
  where
    go : (o : Option Node) → is_some o ≡ false → gives (needs o here NoSet) (counts now) ≡ Err (record { at = here.at; why = NoSet })
    go None h = refl
    go (Some n) h = absurd (cc)

-- one is, and its nodes are put
pub sets_return : {isa : List ℕ} (here : Spot) {found : Bool} {old now : Drafted} {i : ℕ} {vs : List Value} → elements here ≡ Done (items_view vs) → SetsRead isa here.at found old now i vs → length vs ≤ i → found ≡ true
    → Ends (sets_walk isa here) (counts old) (counts now) (λ n. now.nodes ≡ preorder None 0 n)
sets_return {isa} here {found} {old} {now} is r past some = go (chosen_in r.sets) (r.found_is ∙ some) (sets_end here is r past) r.put
  where
    go : (o : Option Node) → is_some o ≡ true → gives (sets_walk isa here) (counts old) ≡ gives (needs o here NoSet) (counts now) → now.nodes ≡ put_set o [] → Ends (sets_walk isa here) (counts old) (counts now) (λ n. now.nodes ≡ preorder None 0 n)
    go None h walked put = absurd (cc)
    go (Some n) h walked put = record { value = n; walked = walked; stands = put }
