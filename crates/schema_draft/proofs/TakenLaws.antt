-- Laws of texts and their numbers: what one more name makes of the counts of a walk, and which names items have.
use Rattle.std.proofs.Common.{◌≡◌, ◌∙◌, sym, ap, refl, ℕ, ◌+◌, ◌<◌, Bool, true, false, ◌&&◌, ◌||◌, ◌==◌, cond, nat_le, List, [], ◌∷◌, ◌++◌, length, map, Option, Some, None, is_some, option_map, unwrap_or, IfSome, All, bytes_eq, Result, Ok, Err}
use Rattle.std.specs.Prelude.{is_none}
use Rattle.std.specs.List.{list_any, cons_option}
use Rattle.std.proofs.lemmas.Bool.{eq-eqb, eqb-true}
use Rattle.std.proofs.lemmas.List.Elements.{All-head, All-tail}
use Rattle.std.proofs.lemmas.Option.{slice_get-get_or, get_or_from_slice_get}
use Rattle.std.proofs.lemmas.Slice.Eq.{bytes_eq-Decides}
use Rattle.spec_walk.specs.Event.{TooMany, Fault}
use Rattle.spec_walk.specs.Limits.{Counts, ◌>>=◌}
use Rattle.spec_walk.specs.Walk.{Done, gives}
use Rattle.spec_walk.specs.Spot.{Spot, named}
use Rattle.mrs_names.specs.Texts.{IsExtended, place_of, with_name, is_refused, AreDistinct, AreNames}
use Rattle.mrs_names.proofs.PlaceLaws.{place_of-at, with_name-new, with_name-held}
use Rattle.mrs_arena.specs.Flat.{FlatItem, Built}
use Rattle.mrs_arena.specs.Placed.{text_of, item_of, placed_node, IsHeldItem}
use Rattle.mrs_arena.proofs.HeldLaws.{placed-extended, exprs-extended, AreHeld-extended, AreHeldExprs-extended}
use Rattle.schema_draft.specs.Drafted.{Drafted, drafted, IsHeld, counts}
use Rattle.spec_instructions.specs.Encodeset.{names_of}

-- ---- one more name

pub bytes_eq-turned : (xs ys : List ℕ) → bytes_eq xs ys ≡ bytes_eq ys xs
bytes_eq-turned xs ys = go (bytes_eq xs ys) (bytes_eq ys xs) refl refl
  where
    go : (a b : Bool) → bytes_eq xs ys ≡ a → bytes_eq ys xs ≡ b → bytes_eq xs ys ≡ bytes_eq ys xs
    go true b e f = e ∙ sym ((bytes_eq-Decides ys xs).1 (sym ((bytes_eq-Decides xs ys).0 e)))
    go false true e f = (bytes_eq-Decides xs ys).1 (sym ((bytes_eq-Decides ys xs).0 f)) ∙ sym f
    go false false e f = e ∙ sym f

-- a text is held where it has a number
held_is : (text : List ℕ) (names : List (List ℕ)) → list_any (λ held. bytes_eq held text) names ≡ is_some (place_of text names)
held_is text [] = refl
held_is text (name ∷ names) = ap (λ b. b || list_any (λ held. bytes_eq held text) names) (bytes_eq-turned name text) ∙ go (bytes_eq text name) (place_of text names) (held_is text names)
  where
    go : (b : Bool) (o : Option ℕ) → list_any (λ held. bytes_eq held text) names ≡ is_some o → (b || list_any (λ held. bytes_eq held text) names) ≡ is_some (cond b (Some 0) (option_map (λ k. k + 1) o))
    go true o ih = refl
    go false None ih = ih
    go false (Some k) ih = ih

-- what becomes of the counts at a text, by its number and whether the names are full
abbrev name_step : Spot → List ℕ → Option ℕ → Bool → Counts → Result (List ℕ × Counts) Fault
name_step here text (Some k) full c = Ok (text, c)
name_step here text None true c = Err (record { at = here.at; why = TooMany })
name_step here text None false c = Ok (text, record c { held = c.held ++ text ∷ [] })

name_step-is : (here : Spot) (text : List ℕ) (c : Counts) → gives (named here text) c ≡ name_step here text (place_of text c.held) (nat_le 4194304 (length c.held)) c
name_step-is here text c = ap (λ b. step b (nat_le 4194304 (length c.held))) (held_is text c.held) ∙ go (place_of text c.held) (nat_le 4194304 (length c.held))
  where
    step : Bool → Bool → Result (List ℕ × Counts) Fault
    step held full = cond held (Ok c) (cond full (Err (record { at = here.at; why = TooMany })) (Ok (record c { held = c.held ++ text ∷ [] }))) >>= gives (Done text)

    go : (o : Option ℕ) (full : Bool) → step (is_some o) full ≡ name_step here text o full c
    go (Some k) full = refl
    go None true = refl
    go None false = refl

-- with more names
abbrev pub more_names : Drafted → List (List ℕ) → Drafted
more_names d names = record d { names = names }

pub name_taken : (here : Spot) (text : List ℕ) (d : Drafted) → is_refused text d.names ≡ false → gives (named here text) (counts d) ≡ Ok (text, counts (more_names d (with_name text d.names)))
name_taken here text d room = name_step-is here text (counts d) ∙ go (place_of text d.names) refl (nat_le 4194304 (length d.names)) room
  where
    go : (o : Option ℕ) → place_of text d.names ≡ o → (full : Bool) → (is_none o && full) ≡ false → name_step here text o full (counts d) ≡ Ok (text, counts (more_names d (with_name text d.names)))
    go (Some k) e full h = ap (λ ns. Ok (text, counts (more_names d ns))) (sym (with_name-held text d.names k e))
    go None e true h = absurd (cc)
    go None e false h = ap (λ ns. Ok (text, counts (more_names d ns))) (sym (with_name-new text d.names e))

pub name_refused : (here : Spot) (text : List ℕ) (d : Drafted) → is_refused text d.names ≡ true → gives (named here text) (counts d) ≡ Err (record { at = here.at; why = TooMany })
name_refused here text d refused = name_step-is here text (counts d) ∙ go (place_of text d.names) (nat_le 4194304 (length d.names)) refused
  where
    go : (o : Option ℕ) (full : Bool) → (is_none o && full) ≡ true → name_step here text o full (counts d) ≡ Err (record { at = here.at; why = TooMany })
    go (Some k) full h = absurd (cc)
    go None true h = refl
    go None false h = absurd (cc)

-- what was put stands for the same when names are added
pub drafted-extended : (old new : List (List ℕ)) (b : Built) → IsExtended old new → IsHeld old b → drafted new b ≡ more_names (drafted old b) new
drafted-extended old new b extended held =
    let d = drafted new b in
    ap (λ nodes. record d { nodes = nodes }) (placed-extended old new b.nodes extended held.nodes)
    ∙ ap (λ exprs. record d { nodes = map (placed_node old) b.nodes; exprs = exprs }) (exprs-extended old new b.exprs extended held.exprs)

pub IsHeld-extended : (old new : List (List ℕ)) (b : Built) → IsExtended old new → IsHeld old b → IsHeld new b
IsHeld-extended old new b extended held = record { nodes = AreHeld-extended old new b.nodes extended held.nodes; exprs = AreHeldExprs-extended old new b.exprs extended held.exprs; few = held.few; few_parts = held.few_parts }

pub text_of-place : (text : List ℕ) (names : List (List ℕ)) (id : ℕ) → place_of text names ≡ Some id → text_of names id ≡ text
text_of-place text names id place = get_or_from_slice_get names id text [] (place_of-at text names id place)

-- ---- names of items

-- a name that is held has its own number
pub place_of-held : (names : List (List ℕ)) (id : ℕ) → AreDistinct names → id < length names → place_of (text_of names id) names ≡ Some id
place_of-held names id distinct within = distinct id (text_of names id) (slice_get-get_or names id [] within)

abbrev pub is_number : Option ℕ → ℕ → Bool
is_number None k = false
is_number (Some id) k = k == id

-- a text is that of a name where it has the name's number
pub same_number : (text : List ℕ) (names : List (List ℕ)) (k : ℕ) → AreDistinct names → k < length names → bytes_eq text (text_of names k) ≡ is_number (place_of text names) k
same_number text names k distinct within = go (bytes_eq text (text_of names k)) refl (place_of text names) refl
  where
    go : (b : Bool) → bytes_eq text (text_of names k) ≡ b → (o : Option ℕ) → place_of text names ≡ o → bytes_eq text (text_of names k) ≡ is_number o k
    go true e o p =
        let same = (bytes_eq-Decides text (text_of names k)).0 e in
        let number : o ≡ Some k = sym p ∙ ap (λ t. place_of t names) same ∙ place_of-held names k distinct within in
        e ∙ sym (ap (λ q. is_number q k) number ∙ eq-eqb k k refl)
    go false e None p = e
    go false e (Some id) p = e ∙ sym (other (k == id) refl)
      where
        other : (b : Bool) → (k == id) ≡ b → (k == id) ≡ false
        other false f = f
        other true f = absurd (let found = (bytes_eq-Decides text (text_of names k)).1 (sym (text_of-place text names id p) ∙ ap (text_of names) (sym (eqb-true k id f))) in cc)

-- numbers are the same where their texts are
pub same_texts : (names : List (List ℕ)) → AreNames names → (m n : ℕ) → m < length names → n < length names → (m == n) ≡ bytes_eq (text_of names m) (text_of names n)
same_texts names are m n low high = sym (
    bytes_eq-turned (text_of names m) (text_of names n) ∙ same_number (text_of names n) names m are.distinct low ∙ ap (λ o. is_number o m) (place_of-held names n are.distinct high))

abbrev pub has_number : Option ℕ → FlatItem → Bool
has_number number it = unwrap_or (option_map (is_number number) it.name) false

-- so an item has the text for its name where it has its number
pub has_number-is : (text : List ℕ) (names : List (List ℕ)) (items : List FlatItem) → AreDistinct names → All (IsHeldItem names) items
    → list_any (bytes_eq text) (names_of (map (item_of names) items)) ≡ list_any (has_number (place_of text names)) items
has_number-is text names [] distinct held = refl
has_number-is text names (it ∷ items) distinct held = go it.name refl (All-head (IsHeldItem names) it items held) (has_number-is text names items distinct (All-tail (IsHeldItem names) it items held))
  where
    go : (name : Option ℕ) → it.name ≡ name → IfSome name (λ id. id < length names)
        → list_any (bytes_eq text) (names_of (map (item_of names) items)) ≡ list_any (has_number (place_of text names)) items
        → list_any (bytes_eq text) (cons_option (option_map (text_of names) name) (names_of (map (item_of names) items)))
        ≡ (unwrap_or (option_map (is_number (place_of text names)) name) false || list_any (has_number (place_of text names)) items)
    go None e h ih = ih
    go (Some id) e h ih =
        ap (λ b. b || list_any (bytes_eq text) (names_of (map (item_of names) items))) (same_number text names id distinct h)
        ∙ ap (λ b. is_number (place_of text names) id || b) ih

has_none : (items : List FlatItem) → list_any (has_number None) items ≡ false
has_none [] = refl
has_none (it ∷ items) = ap (λ b. b || list_any (has_number None) items) (go it.name) ∙ has_none items
  where
    go : (name : Option ℕ) → unwrap_or (option_map (is_number None) name) false ≡ false
    go None = refl
    go (Some id) = refl

-- no item has a text that has no number
pub has_no_number : (text : List ℕ) (names : List (List ℕ)) (items : List FlatItem) → AreDistinct names → All (IsHeldItem names) items → place_of text names ≡ None
    → list_any (bytes_eq text) (names_of (map (item_of names) items)) ≡ false
has_no_number text names items distinct held new = has_number-is text names items distinct held ∙ ap (λ o. list_any (has_number o) items) new ∙ has_none items
