-- Laws of the numbers of texts.
use Rattle.std.proofs.Common.{◌≡◌, ◌∙◌, sym, ap, refl, subst, ℕ, suc, ◌+◌, ◌<◌, ◌≤◌, Bool, true, false, ◌||◌, cond, List, [], ◌∷◌, ◌++◌, length, map, Option, Some, None, is_some, option_map, slice_get, bytes_eq, arith, add-one, append-nil, append_assoc, length-append, ◌⊎◌, inl, inr}
use Rattle.std.specs.List.{position, position_from, list_any}
use Rattle.indexmap.specs.IndexSet.{insert_key}
use Rattle.std.proofs.lemmas.Iterator.Adapters.{position_from-zero}
use Rattle.std.proofs.lemmas.Option.{slice_get_within}
use Rattle.std.proofs.lemmas.List.{map-append}
use Rattle.std.proofs.lemmas.Bool.{cases_lt}
use Rattle.std.proofs.lemmas.Slice.Eq.{bytes_eq-Decides}
use Rattle.mrs_names.proofs.ListLaws.{slice_get-append, slice_get-append_end}
use Rattle.mrs_names.specs.Texts.{name_limit, place_of, with_name, AreDistinct, AreNames, IsExtended}

bytes_eq-same : (text : List ℕ) → bytes_eq text text ≡ true
bytes_eq-same text = (bytes_eq-Decides text text).1 refl

-- a text stands at its number
pub place_of-at : (text : List ℕ) (names : List (List ℕ)) (k : ℕ) → place_of text names ≡ Some k → slice_get names k ≡ Some text
place_of-at text [] k h = absurd (cc)
place_of-at text (name ∷ names) k h = go (bytes_eq text name) refl (place_of text names) refl (λ j e. place_of-at text names j e) h
  where
    go : (b : Bool) → bytes_eq text name ≡ b → (o : Option ℕ) → place_of text names ≡ o → ((j : ℕ) → place_of text names ≡ Some j → slice_get names j ≡ Some text)
        → cond b (Some 0) (option_map (λ j. j + 1) o) ≡ Some k → slice_get (name ∷ names) k ≡ Some text
    go true e o p ih s =
        let here : k ≡ 0 = cc in
        rw here (ap Some (sym ((bytes_eq-Decides text name).0 e)))
    go false e None p ih s = absurd (cc)
    go false e (Some j) p ih s =
        let next : j + 1 ≡ k = cc in
        let after : k ≡ suc j = omega arith in
        rw after (ih j p)

-- so numbers are below the count
pub place_of-lt : (text : List ℕ) (names : List (List ℕ)) (k : ℕ) → place_of text names ≡ Some k → k < length names
place_of-lt text names k h = slice_get_within names k text (place_of-at text names k h)

-- more names behind leave a number
pub place_of-append : (text : List ℕ) (names more : List (List ℕ)) (k : ℕ) → place_of text names ≡ Some k → place_of text (names ++ more) ≡ Some k
place_of-append text [] more k h = absurd (cc)
place_of-append text (name ∷ names) more k h = go (bytes_eq text name) refl (place_of text names) refl (λ j e. place_of-append text names more j e) h
  where
    go : (b : Bool) → bytes_eq text name ≡ b → (o : Option ℕ) → place_of text names ≡ o → ((j : ℕ) → place_of text names ≡ Some j → place_of text (names ++ more) ≡ Some j)
        → cond b (Some 0) (option_map (λ j. j + 1) o) ≡ Some k → cond b (Some 0) (option_map (λ j. j + 1) (place_of text (names ++ more))) ≡ Some k
    go true e o p ih s = s
    go false e None p ih s = absurd (cc)
    go false e (Some j) p ih s = ap (λ o. option_map (λ i. i + 1) o) (ih j p) ∙ s

-- a new text takes the next number
pub place_of-new : (text : List ℕ) (names : List (List ℕ)) → place_of text names ≡ None → place_of text (names ++ text ∷ []) ≡ Some (length names)
place_of-new text [] h = ap (λ b. cond b (Some 0) None) (bytes_eq-same text)
place_of-new text (name ∷ names) h = go (bytes_eq text name) refl (place_of text names) refl (λ e. place_of-new text names e) h
  where
    go : (b : Bool) → bytes_eq text name ≡ b → (o : Option ℕ) → place_of text names ≡ o → (place_of text names ≡ None → place_of text (names ++ text ∷ []) ≡ Some (length names))
        → cond b (Some 0) (option_map (λ j. j + 1) o) ≡ None → cond b (Some 0) (option_map (λ j. j + 1) (place_of text (names ++ text ∷ []))) ≡ Some (suc (length names))
    go true e o p ih s = absurd (cc)
    go false e None p ih s = ap (λ o. option_map (λ i. i + 1) o) (ih p) ∙ ap Some (add-one (length names))
    go false e (Some j) p ih s = absurd (cc)

-- ---- std's first place

module _ {X : Type 0} (bytes : X → List ℕ) (text : List ℕ) where
  plus_zero : (o : Option ℕ) → option_map (λ k. k + 0) o ≡ o
  plus_zero None = refl
  plus_zero (Some k) = ap Some (omega arith)

  plus_next : (i : ℕ) (o : Option ℕ) → option_map (λ k. k + (i + 1)) o ≡ option_map (λ k. k + i) (option_map (λ k. k + 1) o)
  plus_next i None = refl
  plus_next i (Some k) = ap Some (omega arith)

  position_from-is : (i : ℕ) (xs : List X) → position_from (λ x. bytes_eq text (bytes x)) i xs ≡ option_map (λ k. k + i) (place_of text (map bytes xs))
  position_from-is i [] = refl
  position_from-is i (x ∷ xs) = go (bytes_eq text (bytes x)) (position_from-is (i + 1) xs)
    where
      go : (b : Bool) → position_from (λ x. bytes_eq text (bytes x)) (i + 1) xs ≡ option_map (λ k. k + (i + 1)) (place_of text (map bytes xs))
          → cond b (Some i) (position_from (λ x. bytes_eq text (bytes x)) (i + 1) xs) ≡ option_map (λ k. k + i) (cond b (Some 0) (option_map (λ k. k + 1) (place_of text (map bytes xs))))
      go true ih = ap Some (omega arith)
      go false ih = ih ∙ plus_next i (place_of text (map bytes xs))

  -- the first key whose bytes the text equals
  pub position_is : (xs : List X) → position (λ x. bytes_eq text (bytes x)) xs ≡ place_of text (map bytes xs)
  position_is xs = position_from-zero (λ x. bytes_eq text (bytes x)) xs ∙ position_from-is 0 xs ∙ plus_zero (place_of text (map bytes xs))

  -- whether a key has the text's bytes
  list_any-is : (xs : List X) → list_any (λ x. bytes_eq text (bytes x)) xs ≡ is_some (place_of text (map bytes xs))
  list_any-is [] = refl
  list_any-is (x ∷ xs) = go (bytes_eq text (bytes x)) (place_of text (map bytes xs)) (list_any-is xs)
    where
      go : (b : Bool) (o : Option ℕ) → list_any (λ y. bytes_eq text (bytes y)) xs ≡ is_some o → (b || list_any (λ y. bytes_eq text (bytes y)) xs) ≡ is_some (cond b (Some 0) (option_map (λ k. k + 1) o))
      go true o ih = refl
      go false None ih = ih
      go false (Some k) ih = ih

  -- a key of new bytes goes last
  pub inserted : (xs : List X) (x : X) → bytes x ≡ text → place_of text (map bytes xs) ≡ None → map bytes (insert_key (λ y z. bytes_eq (bytes y) (bytes z)) xs x) ≡ map bytes xs ++ text ∷ []
  inserted xs x same new =
      let absent : list_any (λ y. bytes_eq (bytes x) (bytes y)) xs ≡ false = ap (λ t. list_any (λ y. bytes_eq t (bytes y)) xs) same ∙ list_any-is xs ∙ ap is_some new in
      ap (λ b. map bytes (cond b xs (xs ++ x ∷ []))) absent ∙ map-append bytes xs (x ∷ []) ∙ ap (λ t. map bytes xs ++ t ∷ []) same

-- ---- names once a text is held

-- a text that is held changes nothing, and a new one comes last
pub with_name-held : (text : List ℕ) (names : List (List ℕ)) (k : ℕ) → place_of text names ≡ Some k → with_name text names ≡ names
with_name-held text names k h = ap (λ o. cond (is_some o) names (names ++ text ∷ [])) h

pub with_name-new : (text : List ℕ) (names : List (List ℕ)) → place_of text names ≡ None → with_name text names ≡ names ++ text ∷ []
with_name-new text names h = ap (λ o. cond (is_some o) names (names ++ text ∷ [])) h

-- the text is held then
pub record IsHeld (text : List ℕ) (names : List (List ℕ)) : Type 0 where
  pub number : ℕ
  pub place : place_of text names ≡ Some number

pub place_of-with_name : (text : List ℕ) (names : List (List ℕ)) → IsHeld text (with_name text names)
place_of-with_name text names = go (place_of text names) refl
  where
    go : (o : Option ℕ) → place_of text names ≡ o → IsHeld text (with_name text names)
    go None p = record { number = length names; place = ap (λ ns. place_of text ns) (with_name-new text names p) ∙ place_of-new text names p }
    go (Some k) p = record { number = k; place = ap (λ ns. place_of text ns) (with_name-held text names k p) ∙ p }

pub with_name-extends : (text : List ℕ) (names : List (List ℕ)) → IsExtended names (with_name text names)
with_name-extends text names = go (place_of text names) refl
  where
    go : (o : Option ℕ) → place_of text names ≡ o → IsExtended names (with_name text names)
    go None p = record { more = text ∷ []; whole = with_name-new text names p }
    go (Some k) p = record { more = []; whole = with_name-held text names k p ∙ sym (append-nil names) }

-- ---- more names

pub IsExtended-refl : (names : List (List ℕ)) → IsExtended names names
IsExtended-refl names = record { more = []; whole = sym (append-nil names) }

pub IsExtended-trans : (first second third : List (List ℕ)) → IsExtended first second → IsExtended second third → IsExtended first third
IsExtended-trans first second third e f = record { more = e.more ++ f.more; whole = f.whole ∙ ap (λ names. names ++ f.more) e.whole ∙ append_assoc first e.more f.more }

-- a number names one text for good, and a text keeps its number
pub slice_get-IsExtended : (old new : List (List ℕ)) → IsExtended old new → (k : ℕ) (text : List ℕ) → slice_get old k ≡ Some text → slice_get new k ≡ Some text
slice_get-IsExtended old new e k text at = ap (λ names. slice_get names k) e.whole ∙ slice_get-append old e.more k (slice_get_within old k text at) ∙ at

pub place_of-IsExtended : (old new : List (List ℕ)) → IsExtended old new → (k : ℕ) (text : List ℕ) → place_of text old ≡ Some k → place_of text new ≡ Some k
place_of-IsExtended old new e k text at = ap (λ names. place_of text names) e.whole ∙ place_of-append text old e.more k at

-- ---- distinct names

-- distinct names and a new text are distinct names
AreDistinct-push : (text : List ℕ) (names : List (List ℕ)) → place_of text names ≡ None → AreDistinct names → AreDistinct (names ++ text ∷ [])
AreDistinct-push text names new distinct k name at = go (cases_lt k (length names))
  where
    go : (k < length names) ⊎ (length names ≤ k) → place_of name (names ++ text ∷ []) ≡ Some k
    go (inl before) = place_of-append name names (text ∷ []) k (distinct k name (sym (slice_get-append names (text ∷ []) k before) ∙ at))
    go (inr behind) =
        let within = slice_get_within (names ++ text ∷ []) k name at in
        let last : k ≡ length names = omega (arith, length-append names (text ∷ [])) in
        let same : text ≡ name = let there = slice_get-append_end names text [] in let e = ap (λ i. slice_get (names ++ text ∷ []) i) last in cc in
        subst (λ (t : List ℕ). place_of t (names ++ text ∷ []) ≡ Some k) same (place_of-new text names new ∙ ap Some (sym last))

pub AreNames-new : (text : List ℕ) (names : List (List ℕ)) → place_of text names ≡ None → length names < name_limit → AreNames names → AreNames (names ++ text ∷ [])
AreNames-new text names new room held = record { few = omega (arith, length-append names (text ∷ [])); distinct = AreDistinct-push text names new held.distinct }

-- what `intern` takes
pub ruleset extends = (with_name-extends, IsExtended-refl)
