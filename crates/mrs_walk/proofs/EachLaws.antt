-- The loop over the elements of an array: the walk over those that are left.
use Rattle.std.proofs.Common.{◌≡◌, ◌∙◌, sym, ap, refl, ℕ, ◌+◌, ◌<◌, ◌≤◌, List, [], ◌∷◌, ◌++◌, length, get_or, drop, length-append, Ok}
use Rattle.std.proofs.lemmas.List.{at_drop_more, at_drop_all}
use Rattle.serde_json.specs.Data.{item}
use Rattle.serde_json.specs.View.{view, items_view}
use Rattle.serde_json.specs.declared.value.Value.{Value}
use Rattle.spec_walk.specs.Pointer.{element}
use Rattle.spec_walk.specs.Limits.{Counts}
use Rattle.spec_walk.specs.Walk.{Walk, ◌>>>◌, gives}
use Rattle.spec_walk.specs.Spot.{Spot, spot, each}
use Rattle.spec_walk.proofs.WalkLaws.{gives-next}
use Rattle.mrs_walk.specs.Gives.{Fails}
use Rattle.mrs_walk.proofs.AnswerLaws.{Fails-then, Fails-same}
use Rattle.mrs_walk.specs.declared.fault.ReadFault.{ReadFault}

items_view-drop : (vs : List Value) (i : ℕ) (v : Value) → i < length vs → v ≡ get_or vs i v → items_view (drop i vs) ≡ item (view v) (items_view (drop (i + 1) vs))
items_view-drop vs i v within is = at_drop_more items_view vs i v within ∙ ap (λ x. item (view x) (items_view (drop (i + 1) vs))) (sym is)

-- `i` of the elements are read, and gave `so_far`
pub record EachRead {A : Type 0} (read : List A → Spot → Walk A) (at : List ℕ) (so_far : List A) (before now : Counts) (i : ℕ) (vs : List Value) : Type 0 where
  pub count : length so_far ≡ i
  pub walk : gives (each read at so_far (items_view (drop i vs))) now ≡ gives (each read at [] (items_view vs)) before

pub EachRead-none : {A : Type 0} (read : List A → Spot → Walk A) (at : List ℕ) (c : Counts) (vs : List Value) → EachRead read at [] c c 0 vs
EachRead-none read at c vs = record { count = refl; walk = refl }

-- the walk at the next element
each_here : {A : Type 0} {read : List A → Spot → Walk A} {at : List ℕ} {so_far : List A} {before now : Counts} {i : ℕ} {vs : List Value} → EachRead read at so_far before now i vs → (v : Value) → i < length vs → v ≡ get_or vs i v
    → gives (each read at [] (items_view vs)) before ≡ gives (read so_far (spot (element at i) (view v)) >>> λ x. each read at (so_far ++ x ∷ []) (items_view (drop (i + 1) vs))) now
each_here {A} {read} {at} {so_far} {before} {now} {i} {vs} r v within is =
    sym r.walk ∙ ap (λ ds. gives (each read at so_far ds) now) (items_view-drop vs i v within is)
    ∙ ap (λ n. gives (read so_far (spot (element at n) (view v)) >>> λ x. each read at (so_far ++ x ∷ []) (items_view (drop (i + 1) vs))) now) r.count

pub EachRead-next : {A : Type 0} {read : List A → Spot → Walk A} {at : List ℕ} {so_far : List A} {before now : Counts} {i : ℕ} {vs : List Value} → EachRead read at so_far before now i vs → (v : Value) → i < length vs → v ≡ get_or vs i v → (here : Spot) → here ≡ spot (element at i) (view v) → (x : A) (new : Counts)
    → gives (read so_far here) now ≡ Ok (x, new) → EachRead read at (so_far ++ x ∷ []) before new (i + 1) vs
EachRead-next {A} {read} {at} {so_far} {before} {now} {i} {vs} r v within is here at_it x new passed = record {
  count = length-append so_far (x ∷ []) ∙ ap (λ n. n + 1) r.count;
  walk =
      sym (gives-next (read so_far (spot (element at i) (view v))) (λ x. each read at (so_far ++ x ∷ []) (items_view (drop (i + 1) vs))) now new x (ap (λ s. gives (read so_far s) now) (sym at_it) ∙ passed))
      ∙ sym (each_here r v within is);
}

pub EachRead-fails : {A : Type 0} {read : List A → Spot → Walk A} {at : List ℕ} {so_far : List A} {before now : Counts} {i : ℕ} {vs : List Value} → EachRead read at so_far before now i vs → (v : Value) → i < length vs → v ≡ get_or vs i v → (here : Spot) → here ≡ spot (element at i) (view v) → (e : ReadFault)
    → Fails e (gives (read so_far here) now) → Fails e (gives (each read at [] (items_view vs)) before)
EachRead-fails {A} {read} {at} {so_far} {before} {now} {i} {vs} r v within is here at_it e h =
    Fails-same e _ _ (each_here r v within is) (Fails-then e (read so_far (spot (element at i) (view v))) (λ x. each read at (so_far ++ x ∷ []) (items_view (drop (i + 1) vs))) now (Fails-same e _ _ (ap (λ s. gives (read so_far s) now) (sym at_it)) h))

pub EachRead-all : {A : Type 0} {read : List A → Spot → Walk A} {at : List ℕ} {so_far : List A} {before now : Counts} {i : ℕ} {vs : List Value} → EachRead read at so_far before now i vs → length vs ≤ i
    → gives (each read at [] (items_view vs)) before ≡ Ok (so_far, now)
EachRead-all {A} {read} {at} {so_far} {before} {now} {i} {vs} r past = sym r.walk ∙ at_drop_all (λ xs. gives (each read at so_far (items_view xs)) now) vs i past
