-- A configuration's map and the lists that it stands for.
use Rattle.std.proofs.Common.{◌≡◌, ◌≢◌, ◌∙◌, refl, sym, ap, subst, ℕ, zero, suc, ◌+◌, ◌<◌, ◌==◌, Bool, true, false, cond, List, [], ◌∷◌, ◌++◌, length, map, drop, get_or, Option, Some, None, option_map, slice_get, arith, append_assoc, append-nil}
use Rattle.std.specs.Prelude.{AllPairs, zip}
use Rattle.std.specs.Map.{lookup}
use Rattle.std.proofs.lemmas.Bool.{eqb-true}
use Rattle.std.proofs.lemmas.List.{map-append, drop_more, drop_all}
use Rattle.mrs_names.specs.declared.name_id.NameId.{NameId}
use Rattle.spec_expressions.specs.Scope as scope
use Rattle.ast_eval.specs.declared.state.State.{State}
use Rattle.ast_eval.specs.ConfigView.{state_told, choices_of}

abbrev pub Entry : Type 0
Entry = NameId × State

-- the look-up by the map is that by the lists
pub lookup-state : (name : NameId) (entries : List Entry)
    → option_map state_told (lookup (λ (k : NameId). name.0 == k.0) entries) ≡ lookup (λ n. name.0 == n) (zip (map (λ (e : Entry). e.0.0) entries) (map (λ (e : Entry). state_told e.1) entries))
lookup-state name [] = refl
lookup-state name (e ∷ entries) = go (name.0 == e.0.0) (lookup (λ (k : NameId). name.0 == k.0) entries) (lookup-state name entries)
  where
    go : (b : Bool) (found : Option State) {told : Option scope.State} → option_map state_told found ≡ told → option_map state_told (cond b (Some e.1) found) ≡ cond b (Some (state_told e.1)) told
    go true found same = refl
    go false found same = same

-- the entry at a place is the name there with the state there
pub entry_at : (entries : List Entry) (atoms : List Bool) (k : ℕ)
    → option_map (λ (e : Entry). (e.0.0, state_told e.1)) (slice_get entries k) ≡ slice_get (zip (choices_of entries atoms).names (choices_of entries atoms).states) k
entry_at [] atoms k = refl
entry_at (e ∷ entries) atoms zero = refl
entry_at (e ∷ entries) atoms (suc k) = entry_at entries atoms k

-- ---- one more entry

abbrev pub keys : List Entry → List NameId
keys entries = map (λ (e : Entry). e.0) entries

abbrev pub AreApart : List NameId → Type 0
AreApart names = AllPairs (λ first second. first ≢ second) names

at-end : (xs rest : List NameId) (n d : NameId) → get_or (xs ++ n ∷ rest) (length xs) d ≡ n
at-end [] rest n d = refl
at-end (x ∷ xs) rest n d = at-end xs rest n d

AreApart-tail : (x : NameId) (xs : List NameId) → AreApart (x ∷ xs) → AreApart xs
AreApart-tail x xs apart i j d before within = apart (suc i) (suc j) d (omega (arith, before)) (omega (arith, within))

length-with : (xs rest : List NameId) (n : NameId) → length xs < length (xs ++ n ∷ rest)
length-with [] rest n = omega arith
length-with (x ∷ xs) rest n = omega (arith, length-with xs rest n)

same_name : (a b : NameId) → a.0 ≡ b.0 → a ≡ b
same_name a b e = let named : ℕ → NameId = λ n. record { 0 = n } in ap named e

-- a name that is apart from those that were put has no entry
pub no_entry : (entries : List Entry) (n : NameId) (rest : List NameId) → AreApart (keys entries ++ n ∷ rest) → lookup (λ (k : NameId). n.0 == k.0) entries ≡ None
no_entry [] n rest apart = refl
no_entry (e ∷ entries) n rest apart = go (n.0 == e.0.0) refl (no_entry entries n rest (AreApart-tail e.0 (keys entries ++ n ∷ rest) apart))
  where
    go : (b : Bool) → (n.0 == e.0.0) ≡ b → lookup (λ (k : NameId). n.0 == k.0) entries ≡ None → cond b (Some e.1) (lookup (λ (k : NameId). n.0 == k.0) entries) ≡ None
    go true same further =
        absurd (apart 0 (suc (length (keys entries))) n (omega arith) (omega (arith, length-with (keys entries) rest n))
        (same_name e.0 n (sym (eqb-true n.0 e.0.0 same)) ∙ sym (at-end (keys entries) rest n n)))
    go false same further = further

-- the name at place i is apart from those that were put
pub no_entry_at : (entries : List Entry) (names items : List NameId) (i : ℕ) (d : NameId) → items ≡ names → i < length names → AreApart names → keys entries ++ drop i names ≡ names
    → lookup (λ (k : NameId). (get_or items i d).0 == k.0) entries ≡ None
no_entry_at entries names items i d same within apart whole =
    let next : drop i names ≡ get_or items i d ∷ drop (i + 1) names = drop_more names i d within ∙ ap (λ xs. get_or xs i d ∷ drop (i + 1) names) (sym same) in
    no_entry entries (get_or items i d) (drop (i + 1) names) (subst AreApart (sym (ap (λ rest. keys entries ++ rest) (sym next) ∙ whole)) apart)

module _ {X : Type 0} (f : Entry → X) where
  -- a list of which the rest begins with what is put
  pub one_more : (old new : List Entry) (e : Entry) (i : ℕ) (all : List X) → new ≡ old ++ e ∷ [] → i < length all → (d : X) → f e ≡ get_or all i d → map f old ++ drop i all ≡ all → map f new ++ drop (i + 1) all ≡ all
  one_more old new e i all put within d is before =
      ap (λ es. map f es ++ drop (i + 1) all) put
      ∙ ap (λ xs. xs ++ drop (i + 1) all) (map-append f old (e ∷ []))
      ∙ append_assoc (map f old) (f e ∷ []) (drop (i + 1) all)
      ∙ ap (λ xs. map f old ++ xs) (ap (λ x. x ∷ drop (i + 1) all) is ∙ sym (drop_more all i d within))
      ∙ before

  pub all_put : (entries : List Entry) (i : ℕ) (all : List X) → length all ≡ i → map f entries ++ drop i all ≡ all → map f entries ≡ all
  all_put entries i all count whole = sym (ap (λ rest. map f entries ++ rest) (drop_all i all (omega (arith, count))) ∙ append-nil (map f entries)) ∙ whole

pub numbers_put : (entries : List Entry) (names : List NameId) → keys entries ≡ names → map (λ (e : Entry). e.0.0) entries ≡ map (λ (name : NameId). name.0) names
numbers_put entries names is = numbers-keys entries ∙ ap (map (λ (name : NameId). name.0)) is
  where
    numbers-keys : (es : List Entry) → map (λ (e : Entry). e.0.0) es ≡ map (λ (name : NameId). name.0) (keys es)
    numbers-keys [] = refl
    numbers-keys (e ∷ es) = ap (λ ns. e.0.0 ∷ ns) (numbers-keys es)

pub states_put : (entries : List Entry) (states : List State) → map (λ (e : Entry). e.1) entries ≡ states → map (λ (e : Entry). state_told e.1) entries ≡ map state_told states
states_put entries states is = told entries ∙ ap (map state_told) is
  where
    told : (es : List Entry) → map (λ (e : Entry). state_told e.1) es ≡ map state_told (map (λ (e : Entry). e.1) es)
    told [] = refl
    told (e ∷ es) = ap (λ ss. state_told e.1 ∷ ss) (told es)
