-- Lists of constraints, element by element.
use Rattle.std.proofs.Common.{◌≡◌, ◌∙◌, ap, ℕ, ◌<◌, ◌≤◌, List, [], length, get_or, Some, Ok, Err, Result, unwrap_or, codes}
use Rattle.serde_json.specs.View.{view, items_view}
use Rattle.serde_json.specs.declared.value.Value.{Value}
use Rattle.spec_walk.specs.Pointer.{element}
use Rattle.spec_walk.specs.Walk.{Done, ◌>>>◌, gives}
use Rattle.spec_walk.specs.Spot.{Spot, spot, member_at, elements, each}
use Rattle.spec_walk.specs.Descend.{at_spot, elements_at}
use Rattle.spec_walk.specs.Limits.{Counts}
use Rattle.spec_walk.proofs.WalkLaws.{gives-next}
use Rattle.spec_expressions.specs.Expression.{Expr}
use Rattle.spec_features.specs.Walk.{constraints}
use Rattle.spec_expressions.specs.Reading.{Itself, reader, expression}
use Rattle.mrs_walk.specs.Gives.{Ends, Fails, Puts}
use Rattle.mrs_walk.specs.declared.fault.ReadFault.{ReadFault}
use Rattle.mrs_walk.proofs.EachLaws.{EachRead-all, EachRead-fails}
use Rattle.mrs_walk.proofs.AnswerLaws.{Fails-then, Fails-same, optional-there}
use Rattle.schema_draft.specs.Drafted.{Drafted, counts}
use Rattle.expression_reader.specs.ExprsRead.{AreRead}
use Rattle.expression_reader.proofs.ExprsLaws.{PartsRead}

array_is : (list : Spot) (vs : List Value) → elements list ≡ Done (items_view vs) → elements_at reader Itself list ≡ each (λ _. at_spot reader Itself) list.at [] (items_view vs)
array_is list vs is = ap (λ w. w >>> each (λ _. at_spot reader Itself) list.at []) is

pub constraints_fail : (f : ReadFault) (list : Spot) {old now : Drafted} {ids : List ℕ} {i : ℕ} {vs : List Value} → elements list ≡ Done (items_view vs) → PartsRead list.at old now ids i vs → (v : Value) → i < length vs → v ≡ get_or vs i v
    → (place : Spot) → place ≡ spot (element list.at i) (view v) → Fails f (gives (expression place) (counts now)) → Fails f (gives (elements_at reader Itself list) (counts old))
constraints_fail f list {old} {now} {ids} {i} {vs} is r v within at_i place at_it h =
    Fails-same f _ _ (ap (λ w. gives w (counts old)) (array_is list vs is)) (EachRead-fails r.each v within at_i place at_it f h)

pub constraints_end : (list : Spot) (old now : Drafted) (ids : List ℕ) (i : ℕ) (vs : List Value) → elements list ≡ Done (items_view vs) → PartsRead list.at old now ids i vs → length vs ≤ i
    → Ends (elements_at reader Itself list) (counts old) (counts now) (λ es. AreRead old now es ids)
constraints_end list old now ids i vs is r past = record {
  value = r.found;
  walked = ap (λ w. gives w (counts old)) (array_is list vs is) ∙ EachRead-all r.each past;
  stands = r.read;
}

-- a list that is there is read
pub constraints_there : {T : Type 0} (r : Result T ReadFault) (P : List Expr → T → Type 0) (here there : Spot) (old new : Counts) → Some there ≡ member_at (codes "constraints") here
    → Puts r (elements_at reader Itself there) old new P → Puts r (constraints here) old new P
constraints_there (Ok x) P here there old new is p = record {
  value = p.value;
  walked =
      ap (λ w. gives (w >>> λ found. Done (unwrap_or found [])) old) (optional-there (codes "constraints") (elements_at reader Itself) here there is)
      ∙ gives-next (elements_at reader Itself there >>> λ es. Done (Some es)) (λ found. Done (unwrap_or found [])) old new (Some p.value)
      (gives-next (elements_at reader Itself there) (λ es. Done (Some es)) old new p.value p.walked);
  stands = p.stands;
}
constraints_there (Err f) P here there old new is p =
    Fails-same f _ _ (ap (λ w. gives (w >>> λ found. Done (unwrap_or found [])) old) (optional-there (codes "constraints") (elements_at reader Itself) here there is))
    (Fails-then f (elements_at reader Itself there >>> λ es. Done (Some es)) (λ found. Done (unwrap_or found [])) old
    (Fails-then f (elements_at reader Itself there) (λ es. Done (Some es)) old p))
