-- Laws of items that are read.
use Rattle.std.proofs.Common.{◌≡◌, ◌∙◌, sym, ap, subst, ℕ, ◌+◌, ◌<◌, ◌≤◌, List, [], ◌∷◌, ◌++◌, length, get_or, Option, Some, None, option_map, Result, arith, add-zero, add_assoc}
use Rattle.std.specs.Prelude.{option_to_list, is_some}
use Rattle.serde_json.specs.View.{view, items_view}
use Rattle.serde_json.specs.declared.value.Value.{Value}
use Rattle.spec_walk.specs.Pointer.{element}
use Rattle.serde_json.specs.Data.{Items}
use Rattle.spec_bits.specs.Item.{Item}
use Rattle.spec_walk.specs.Event.{TooMany}
use Rattle.spec_walk.specs.Walk.{Walk, Done, ◌>>>◌, gives}
use Rattle.spec_walk.specs.Spot.{Spot, spot, kind, unless, elements, each}
use Rattle.spec_instructions.specs.Encodeset.{ItemKind, item_kind_named, item_parts, item, within_limits, named_in}
use Rattle.mrs_names.specs.declared.name_id.NameId.{NameId}
use Rattle.mrs_arena.specs.declared.item.Item as arena
use Rattle.mrs_arena.specs.Placed.{Placed, item_of, text_of}
use Rattle.mrs_arena.specs.Views.{flat_item}
use Rattle.mrs_walk.specs.Gives.{Fails, Ends, Puts}
use Rattle.mrs_walk.specs.declared.fault.ReadFault.{ReadFault}
use Rattle.mrs_walk.proofs.AnswerLaws.{Fails-same, Puts-then, Puts-same, Puts-last}
use Rattle.schema_draft.specs.Drafted.{Drafted, counts, last_items, last_named, with_items}
use Rattle.schema_draft.specs.Parts.{IsRead}
use Rattle.mrs_walk.proofs.EachLaws.{EachRead, EachRead-none, EachRead-next, EachRead-fails, EachRead-all}
use Rattle.mrs_names.specs.Texts.{IsExtended}
use Rattle.mrs_arena.proofs.NodeLaws.{count_by-append}
use Rattle.mrs_names.proofs.PlaceLaws.{IsExtended-refl, IsExtended-trans}
use Rattle.schema_draft.proofs.PlacedLaws.{length-with_items, last_items-with_items, last_named-with_items, with_items-none, with_items-more}

-- what stands behind the parts of an item
abbrev finish : ℕ → List Item → Spot → Item → Walk Item
finish named earlier here it = unless (within_limits (length earlier) (named + length (option_to_list it.name))) here TooMany >>> λ _. Done it

item-kind : (named : ℕ) (earlier : List Item) (here : Spot) (k : ItemKind) → kind item_kind_named here ≡ Done k → item named earlier here ≡ item_parts earlier here k >>> finish named earlier here
item-kind named earlier here k h = ap (λ (w : Walk ItemKind). w >>> item_parts earlier here >>> finish named earlier here) h

named_alike : (names : List (List ℕ)) (o : Option NameId) (it : Item) → it.name ≡ option_map (text_of names) (option_map (λ id. id.0) o) → length (option_to_list o) ≡ length (option_to_list it.name)
named_alike names None it is = ap (λ n. length (option_to_list n)) (sym is)
named_alike names (Some id) it is = ap (λ n. length (option_to_list n)) (sym is)

-- an item that is put, or one too many
pub item_returns : {T : Type 0} (r : Result T ReadFault) (old mid new : Drafted) (here : Spot) (k : ItemKind) (x : arena.Item) → kind item_kind_named here ≡ Done k
    → Ends (item_parts (last_items old.nodes) here k) (counts old) (counts mid) (λ it. IsRead it mid.names (last_items old.nodes) x) → mid.nodes ≡ old.nodes
    → Puts r (unless (within_limits (length (last_items mid.nodes)) (last_named mid.nodes + length (option_to_list x.name))) here TooMany) (counts mid) (counts new) (λ _ _. new.nodes ≡ with_items (item_of mid.names (flat_item x) ∷ []) mid.nodes)
    → Puts r (item (last_named old.nodes) (last_items old.nodes) here) (counts old) (counts new) (λ it _. new.nodes ≡ with_items (it ∷ []) old.nodes)
item_returns r old mid new here k x is parts same put =
    Puts-same r _ _ (counts old) (counts new) _ (item-kind (last_named old.nodes) (last_items old.nodes) here k is)
    (Puts-then r (item_parts (last_items old.nodes) here k) (finish (last_named old.nodes) (last_items old.nodes) here) it (counts old) (counts mid) (counts new) (λ it _. new.nodes ≡ with_items (it ∷ []) old.nodes) parts.walked
    (Puts-last r (test old.nodes (length (option_to_list it.name))) (λ _. it) (counts mid) (counts new) (λ _ _. new.nodes ≡ with_items (item_of mid.names (flat_item x) ∷ []) mid.nodes) (λ it _. new.nodes ≡ with_items (it ∷ []) old.nodes)
    (λ a y p. p ∙ ap (λ i. with_items (i ∷ []) mid.nodes) parts.stands.item ∙ ap (λ nodes. with_items (it ∷ []) nodes) same)
    (Puts-same r (test mid.nodes (length (option_to_list x.name))) (test old.nodes (length (option_to_list it.name))) (counts mid) (counts new) _
    (ap (λ nodes. test nodes (length (option_to_list it.name))) (sym same) ∙ ap (test mid.nodes) (sym (named_alike mid.names x.name it (ap (λ i. i.name) (sym parts.stands.item))))) put)))
  where
    it : Item
    it = parts.value

    test : List Placed → ℕ → Walk Unit
    test nodes n = unless (within_limits (length (last_items nodes)) (last_named nodes + n)) here TooMany

-- ---- the loop

-- how far the items are read, which stand at the last node
pub record ItemsRead (at : List ℕ) (old now : Drafted) (i : ℕ) (vs : List Value) : Type 0 where
  pub some : 0 < length now.nodes
  pub each : EachRead (λ earlier. item (last_named old.nodes + named_in earlier) earlier) at (last_items now.nodes) (counts old) (counts now) i vs
  pub named : last_named now.nodes ≡ last_named old.nodes + named_in (last_items now.nodes)
  pub put : now.nodes ≡ with_items (last_items now.nodes) old.nodes
  pub kept : IsExtended old.names now.names

pub ItemsRead-none : (at : List ℕ) (old : Drafted) (vs : List Value) → 0 < length old.nodes → last_items old.nodes ≡ [] → ItemsRead at old old 0 vs
ItemsRead-none at old vs some bare = record {
  some = some;
  each = subst (λ (items : List Item). EachRead (λ earlier. item (last_named old.nodes + named_in earlier) earlier) at items (counts old) (counts old) 0 vs) (sym bare) (EachRead-none _ at (counts old) vs);
  named = sym (ap (λ items. last_named old.nodes + named_in items) bare ∙ add-zero (last_named old.nodes));
  put = sym (ap (λ items. with_items items old.nodes) bare ∙ with_items-none old.nodes);
  kept = IsExtended-refl old.names;
}

pub ItemsRead-next : {at : List ℕ} {old now : Drafted} {i : ℕ} {vs : List Value} → ItemsRead at old now i vs → (v : Value) → i < length vs → v ≡ get_or vs i v → (here : Spot) → here ≡ spot (element at i) (view v) → (new : Drafted)
    → Ends (item (last_named now.nodes) (last_items now.nodes) here) (counts now) (counts new) (λ it. new.nodes ≡ with_items (it ∷ []) now.nodes) → IsExtended now.names new.names → ItemsRead at old new (i + 1) vs
ItemsRead-next {at} {old} {now} {i} {vs} r v within is here at_it new ends more = record {
  some = omega (arith, r.some, ap length ends.stands, length-with_items one now.nodes);
  each = subst (λ (xs : List Item). EachRead (λ earlier. item (last_named old.nodes + named_in earlier) earlier) at xs (counts old) (counts new) (i + 1) vs) (sym items)
      (EachRead-next r.each v within is here at_it it (counts new) (ap (λ n. gives (item n (last_items now.nodes) here) (counts now)) (sym r.named) ∙ ends.walked));
  named =
      ap last_named ends.stands ∙ last_named-with_items one now.nodes r.some ∙ ap (λ n. n + named_in one) r.named
      ∙ add_assoc (last_named old.nodes) (named_in (last_items now.nodes)) (named_in one)
      ∙ ap (λ n. last_named old.nodes + n) (sym (count_by-append (λ it. is_some it.name) (last_items now.nodes) one) ∙ ap named_in (sym items));
  put = ends.stands ∙ ap (with_items one) r.put ∙ with_items-more (last_items now.nodes) one old.nodes ∙ ap (λ its. with_items its old.nodes) (sym items);
  kept = IsExtended-trans old.names now.names new.names r.kept more;
}
  where
    it : Item
    it = ends.value

    one : List Item
    one = it ∷ []

    items : last_items new.nodes ≡ last_items now.nodes ++ one
    items = ap last_items ends.stands ∙ last_items-with_items one now.nodes r.some

pub ItemsRead-fails : {at : List ℕ} {old now : Drafted} {i : ℕ} {vs : List Value} → ItemsRead at old now i vs → (v : Value) → i < length vs → v ≡ get_or vs i v → (here : Spot) → here ≡ spot (element at i) (view v) → (e : ReadFault)
    → Fails e (gives (item (last_named now.nodes) (last_items now.nodes) here) (counts now)) → Fails e (gives (each (λ earlier. item (last_named old.nodes + named_in earlier) earlier) at [] (items_view vs)) (counts old))
ItemsRead-fails {at} {old} {now} {i} {vs} r v within is here at_it e h =
    EachRead-fails r.each v within is here at_it e (subst (λ (n : ℕ). Fails e (gives (item n (last_items now.nodes) here) (counts now))) r.named h)

-- an array of items
abbrev pub elements_walk : Drafted → Spot → Walk (List Item)
elements_walk old here = elements here >>> each (λ earlier. item (last_named old.nodes + named_in earlier) earlier) here.at []

array_is : (old : Drafted) (here : Spot) (ds : Items) → elements here ≡ Done ds → elements_walk old here ≡ each (λ earlier. item (last_named old.nodes + named_in earlier) earlier) here.at [] ds
array_is old here ds h = ap (λ w. w >>> each (λ earlier. item (last_named old.nodes + named_in earlier) earlier) here.at []) h

pub items_fail : (e : ReadFault) (old : Drafted) (here : Spot) (vs : List Value) → elements here ≡ Done (items_view vs) → Fails e (gives (each (λ earlier. item (last_named old.nodes + named_in earlier) earlier) here.at [] (items_view vs)) (counts old)) → Fails e (gives (elements_walk old here) (counts old))
items_fail e old here vs h fails = Fails-same e _ _ (ap (λ w. gives w (counts old)) (array_is old here (items_view vs) h)) fails

pub items_return : (old now : Drafted) (here : Spot) (i : ℕ) (vs : List Value) → elements here ≡ Done (items_view vs) → ItemsRead here.at old now i vs → length vs ≤ i → Ends (elements_walk old here) (counts old) (counts now) (λ items. now.nodes ≡ with_items items old.nodes)
items_return old now here i vs h r past = record {
  value = last_items now.nodes;
  walked = ap (λ w. gives w (counts old)) (array_is old here (items_view vs) h) ∙ EachRead-all r.each past;
  stands = r.put;
}
