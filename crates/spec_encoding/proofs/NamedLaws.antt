-- Values of named fields are encoded to a word exactly where that word has them.
use Rattle.std.specs.Prelude.{is_none, option_map}
use Rattle.std.proofs.Common.{◌≡◌, ◌∙◌, sym, ap, refl, subst, ℕ, ◌+◌, ◌^◌, ◌<◌, ◌≤◌, Bool, true, false, not, ◌&&◌, ◌||◌, cond, List, [], ◌∷◌, ◌++◌, map, All, Option, Some, None, Ok, arith, inl, inr}
use Rattle.std.specs.Bool.{Decides}
use Rattle.std.specs.List.{list_any, position_from}
use Rattle.std.proofs.lemmas.Bool.{and_parts, and_from, and_right, or_parts, or_from, not-true, not-false, not_from_false, le-ltb}
use Rattle.std.proofs.lemmas.List.Folds.{list_any-append}
use Rattle.spec_bits.specs.Bits.{bit_of, slice}
use Rattle.spec_encoding.specs.Parts.{Part, covers}
use Rattle.spec_encoding.specs.Layout.{Layout, rest_in}
use Rattle.spec_encoding.specs.Refusal.{UnknownField, DoubledField, MissingField}
use Rattle.spec_encoding.specs.Named.{FieldOf, field_for, is_unknown, is_paired, doubled_from, missing, part_from, parts, encoded}
use Rattle.spec_encoding.proofs.Members.{In, any-In, In-any, any-none, All-In, All-each, none-any, In-map, map-In, find-In, find-none, none-find, position-none, none-position, none_mapped}
use Rattle.spec_encoding.proofs.PlacedLaws.{HasParts, IsLayout, unless-Ok, unless-None, placed-from, placed-to, one_word}

module _ {N : Type 0} (same : N → N → Bool) (tells : (a b : N) → Decides (same a b) (a ≡ b)) where
  -- no name of a pair stands in a later one
  abbrev pub all_distinct : List (N × ℕ) → Bool
  all_distinct [] = true
  all_distinct (p ∷ pairs) = not (list_any (λ q. same p.0 q.0) pairs) && all_distinct pairs

  -- the pairs' names are distinct and exactly those of the shown fields, and a word has their values and the rest and is not excluded
  pub record HasPairs (l : Layout) (excluded : ℕ → Option ℕ) (shown : List (FieldOf N)) (pairs : List (N × ℕ)) (rest w : ℕ) : Type 0 where
    pub distinct : all_distinct pairs ≡ true
    pub known : All (λ p. is_unknown same shown p ≡ false) pairs
    pub whole : All (λ f. is_paired same pairs f.name ≡ true) shown
    pub has : HasParts l excluded (parts same shown pairs) rest w

  -- the names of fields are distinct
  abbrev pub names_distinct : List (FieldOf N) → Bool
  names_distinct [] = true
  names_distinct (f ∷ fs) = not (list_any (λ e. same f.name e.name) fs) && names_distinct fs

  abbrev pub some_field : List (FieldOf N) → ℕ → Bool
  some_field shown i = list_any (λ f. covers f.start f.width i) shown

  -- what is known of a path and its shown fields
  pub record IsPath (l : Layout) (excluded : ℕ → Option ℕ) (shown : List (FieldOf N)) : Type 0 where
    pub within : All (λ f. f.start + f.width ≤ 32) shown
    pub distinct : names_distinct shown ≡ true
    pub binary : (i b : ℕ) → l.fixed i ≡ Some b → b < 2
    pub unfixed_free : (i : ℕ) → l.free i ≡ true → l.fixed i ≡ None
    pub bare_free : (i : ℕ) → l.free i ≡ true → some_field shown i ≡ false
    pub whole : (i : ℕ) → i < 32 → l.fixed i ≡ None → l.free i ≡ false → some_field shown i ≡ true
    pub kept : (w : ℕ) → excluded w ≡ None → (i b : ℕ) → l.fixed i ≡ Some b → bit_of w i ≡ b

  -- a field is found by its name
  pub field-found : (shown : List (FieldOf N)) (f : FieldOf N) (name : N) → names_distinct shown ≡ true → In f shown → f.name ≡ name → field_for same shown name ≡ Some f
  field-found [] f name d i e = absurd i
  field-found (y ∷ ys) f name d (inl s) e = ap (λ b. cond b (Some y) (field_for same ys name)) ((tells y.name name).1 (ap (λ z. z.name) (sym s) ∙ e)) ∙ ap Some (sym s)
  field-found (y ∷ ys) f name d (inr i) e =
      let parts' = and_parts (not (list_any (λ z. same y.name z.name) ys)) (names_distinct ys) d in
      let none = any-none (λ z. same y.name z.name) ys f (not-true _ parts'.0) i in
      ap (λ b. cond b (Some y) (field_for same ys name)) (ap (same y.name) (sym e) ∙ none) ∙ field-found ys f name parts'.1 i e

  cover-none : (i : ℕ) → covers 0 0 i ≡ false
  cover-none i = and_right _ _ (le-ltb i (0 + 0) (omega arith))

  part_within : (shown : List (FieldOf N)) → All (λ f. f.start + f.width ≤ 32) shown → (name : N) (v : ℕ) (o : Option (FieldOf N)) → field_for same shown name ≡ o → (part_from same o v).start + (part_from same o v).width ≤ 32
  part_within shown all name v None e = omega arith
  part_within shown all name v (Some f) e = All-In (λ f. f.start + f.width ≤ 32) shown f all (find-In (λ f. same f.name name) shown f e)

  part_bare : (shown : List (FieldOf N)) (i : ℕ) → some_field shown i ≡ false → (name : N) (v : ℕ) (o : Option (FieldOf N)) → field_for same shown name ≡ o → covers (part_from same o v).start (part_from same o v).width i ≡ false
  part_bare shown i none name v None e = cover-none i
  part_bare shown i none name v (Some f) e = any-none (λ f. covers f.start f.width i) shown f none (find-In (λ f. same f.name name) shown f e)

  abbrev part_of : List (FieldOf N) → N × ℕ → Part
  part_of shown p = part_from same (field_for same shown p.0) p.1

  known-from : (l : Layout) (excluded : ℕ → Option ℕ) (shown : List (FieldOf N)) (pairs : List (N × ℕ)) → IsPath l excluded shown → All (λ f. is_paired same pairs f.name ≡ true) shown → IsLayout l excluded (parts same shown pairs)
  known-from l excluded shown pairs path paired = record {
    within = All-each (λ p. p.start + p.width ≤ 32) (parts same shown pairs) (λ q i.
        let w = map-In (part_of shown) pairs q i in
        subst (λ p. p.start + p.width ≤ 32) (sym w.2) (part_within shown path.within w.0.0 w.0.1 (field_for same shown w.0.0) refl));
    binary = path.binary;
    unfixed_free = path.unfixed_free;
    bare_free = λ i free. none-any (λ p. covers p.start p.width i) (parts same shown pairs) (λ q j.
        let w = map-In (part_of shown) pairs q j in
        ap (λ p. covers p.start p.width i) w.2 ∙ part_bare shown i (path.bare_free i free) w.0.0 w.0.1 (field_for same shown w.0.0) refl);
    whole = λ i below unfixed bound.
        let f = any-In (λ f. covers f.start f.width i) shown (path.whole i below unfixed bound) in
        let p = any-In (λ p. same p.0 f.0.name) pairs (All-In (λ f. is_paired same pairs f.name ≡ true) shown f.0 paired f.1) in
        let found = field-found shown f.0 p.0.0 path.distinct f.1 (sym ((tells p.0.0 f.0.name).0 p.2)) in
        In-any (λ p. covers p.start p.width i) (parts same shown pairs) (part_of shown p.0) (In-map (part_of shown) pairs p.0 p.1)
        (ap (λ o. covers (part_from same o p.0.1).start (part_from same o p.0.1).width i) found ∙ f.2);
    kept = path.kept;
  }

  -- ---- names that stand twice

  abbrev Fresh : List (N × ℕ) → List (N × ℕ) → Type 0
  Fresh before pairs = (p : N × ℕ) → In p pairs → is_paired same before p.0 ≡ false

  or_nothing : (b : Bool) → b ≡ false → (b || false) ≡ false
  or_nothing b e = or_from b false e refl

  fresh-next : (before : List (N × ℕ)) (p : N × ℕ) (pairs : List (N × ℕ)) → Fresh before (p ∷ pairs) → list_any (λ q. same p.0 q.0) pairs ≡ false → Fresh (before ++ p ∷ []) pairs
  fresh-next before p pairs fresh apart q i =
      list_any-append (λ x. same x.0 q.0) before (p ∷ [])
      ∙ or_from (is_paired same before q.0) (same p.0 q.0 || false) (fresh q (inr i)) (or_nothing (same p.0 q.0) (any-none (λ z. same p.0 z.0) pairs q apart i))

  doubled-none : (before : List (N × ℕ)) (k : ℕ) (pairs : List (N × ℕ)) → Fresh before pairs → all_distinct pairs ≡ true → doubled_from same before k pairs ≡ None
  doubled-none before k [] fresh d = refl
  doubled-none before k (p ∷ pairs) fresh d =
      let parts' = and_parts (not (list_any (λ q. same p.0 q.0) pairs)) (all_distinct pairs) d in
      ap (λ b. cond b (Some k) (doubled_from same (before ++ p ∷ []) (k + 1) pairs)) (fresh p (inl refl))
      ∙ doubled-none (before ++ p ∷ []) (k + 1) pairs (fresh-next before p pairs fresh (not-true _ parts'.0)) parts'.1

  record Distinct (before pairs : List (N × ℕ)) : Type 0 where
    fresh : Fresh before pairs
    distinct : all_distinct pairs ≡ true

  none-doubled : (before : List (N × ℕ)) (k : ℕ) (pairs : List (N × ℕ)) → doubled_from same before k pairs ≡ None → Distinct before pairs
  none-doubled before k [] h = record { fresh = λ p i. absurd i; distinct = refl }
  none-doubled before k (p ∷ pairs) h = go (none-doubled (before ++ p ∷ []) (k + 1) pairs) (is_paired same before p.0) refl h
    where
      go : (doubled_from same (before ++ p ∷ []) (k + 1) pairs ≡ None → Distinct (before ++ p ∷ []) pairs) → (b : Bool) → is_paired same before p.0 ≡ b
          → cond b (Some k) (doubled_from same (before ++ p ∷ []) (k + 1) pairs) ≡ None → Distinct before (p ∷ pairs)
      go further true e n = absurd (cc)
      go further false e n =
          let rest = further n in
          let split : (q : N × ℕ) → In q pairs → (is_paired same before q.0 ≡ false) × ((same p.0 q.0 || false) ≡ false) = λ q i. or_parts (is_paired same before q.0) (same p.0 q.0 || false) (sym (list_any-append (λ x. same x.0 q.0) before (p ∷ [])) ∙ rest.fresh q i) in
          record {
            fresh = λ q i. elim i as (λ _. is_paired same before q.0 ≡ false) [ inl s ↦ ap (λ z. is_paired same before z.0) s ∙ e | inr j ↦ (split q j).0 ];
            distinct = and_from (not (list_any (λ q. same p.0 q.0) pairs)) (all_distinct pairs) (not_from_false _ (none-any (λ q. same p.0 q.0) pairs (λ q i. (or_parts (same p.0 q.0) false (split q i).1).0))) rest.distinct;
          }

  -- ---- both ways

  pub encoded-from : (l : Layout) (excluded : ℕ → Option ℕ) (shown : List (FieldOf N)) (pairs : List (N × ℕ)) (rest w : ℕ) → IsPath l excluded shown → HasPairs l excluded shown pairs rest w → encoded same l excluded shown pairs rest ≡ Ok w
  encoded-from l excluded shown pairs rest w path e =
      unless-None _ UnknownField _ (position-none (is_unknown same shown) 0 pairs (λ p i. All-In (λ p. is_unknown same shown p ≡ false) pairs p e.known i))
      ∙ unless-None _ DoubledField _ (doubled-none [] 0 pairs (λ p i. refl) e.distinct)
      ∙ unless-None _ MissingField _ (ap (option_map (λ f. f.name)) (find-none (λ f. not (is_paired same pairs f.name)) shown (λ f i. ap not (All-In (λ f. is_paired same pairs f.name ≡ true) shown f e.whole i))))
      ∙ placed-from l excluded (parts same shown pairs) rest w (known-from l excluded shown pairs path e.whole) e.has

  pub encoded-to : (l : Layout) (excluded : ℕ → Option ℕ) (shown : List (FieldOf N)) (pairs : List (N × ℕ)) (rest w : ℕ) → IsPath l excluded shown → rest < 2 ^ 32 → encoded same l excluded shown pairs rest ≡ Ok w → HasPairs l excluded shown pairs rest w
  encoded-to l excluded shown pairs rest w path small h =
      let unknown = unless-Ok (position_from (is_unknown same shown) 0 pairs) UnknownField _ w h in
      let doubled = unless-Ok (doubled_from same [] 0 pairs) DoubledField _ w unknown.1 in
      let missed = unless-Ok (missing same shown pairs) MissingField _ w doubled.1 in
      let whole = All-each (λ f. is_paired same pairs f.name ≡ true) shown (λ f i. not-false _ (none-find (λ f. not (is_paired same pairs f.name)) shown (none_mapped (λ f. f.name) _ missed.0) f i)) in
      record {
        distinct = (none-doubled [] 0 pairs doubled.0).distinct;
        known = All-each (λ p. is_unknown same shown p ≡ false) pairs (none-position (is_unknown same shown) 0 pairs unknown.0);
        whole = whole;
        has = placed-to l excluded (parts same shown pairs) rest w (known-from l excluded shown pairs path whole) small missed.1;
      }

  -- at most one word is encoded to
  pub at_most_one : (l : Layout) (excluded : ℕ → Option ℕ) (shown : List (FieldOf N)) (pairs : List (N × ℕ)) (rest w u : ℕ) → IsPath l excluded shown → HasPairs l excluded shown pairs rest w → HasPairs l excluded shown pairs rest u → w ≡ u
  at_most_one l excluded shown pairs rest w u path left right = one_word l excluded (parts same shown pairs) rest w u (known-from l excluded shown pairs path left.whole) left.has right.has

  -- ---- a word's own fields

  abbrev pub own_pairs : List (FieldOf N) → ℕ → List (N × ℕ)
  own_pairs shown w = map (λ f. (f.name, slice w f.start f.width)) shown

  own_distinct : (shown : List (FieldOf N)) (w : ℕ) → names_distinct shown ≡ true → all_distinct (own_pairs shown w) ≡ true
  own_distinct [] w d = refl
  own_distinct (f ∷ fs) w d =
      let parts' = and_parts (not (list_any (λ e. same f.name e.name) fs)) (names_distinct fs) d in
      and_from (not (list_any (λ q. same f.name q.0) (own_pairs fs w))) (all_distinct (own_pairs fs w)) (not_from_false _ (none-any (λ q. same f.name q.0) (own_pairs fs w) (λ q i.
      let z = map-In (λ f. (f.name, slice w f.start f.width)) fs q i in
      ap (λ q. same f.name q.0) z.2 ∙ any-none (λ e. same f.name e.name) fs z.0 (not-true _ parts'.0) z.1))) (own_distinct fs w parts'.1)

  -- a word that no node excludes is encoded to by its own shown slices and rest
  pub own_encodes : (l : Layout) (excluded : ℕ → Option ℕ) (shown : List (FieldOf N)) (w : ℕ) → IsPath l excluded shown → w < 2 ^ 32 → excluded w ≡ None → HasPairs l excluded shown (own_pairs shown w) (rest_in l w) w
  own_encodes l excluded shown w path small holds = record {
    distinct = own_distinct shown w path.distinct;
    known = All-each (λ p. is_unknown same shown p ≡ false) (own_pairs shown w) (λ q i.
        let z = map-In (λ f. (f.name, slice w f.start f.width)) shown q i in
        ap (is_unknown same shown) z.2 ∙ ap is_none (field-found shown z.0 z.0.name path.distinct z.1 refl));
    whole = All-each (λ f. is_paired same (own_pairs shown w) f.name ≡ true) shown (λ f i.
        In-any (λ p. same p.0 f.name) (own_pairs shown w) (f.name, slice w f.start f.width) (In-map (λ f. (f.name, slice w f.start f.width)) shown f i) ((tells f.name f.name).1 refl));
    has = record {
      is_word = small;
      slices = All-each (λ p. slice w p.start p.width ≡ p.value) (parts same shown (own_pairs shown w)) (λ q i.
          let p = map-In (part_of shown) (own_pairs shown w) q i in
          let z = map-In (λ f. (f.name, slice w f.start f.width)) shown p.0 p.1 in
          let is = p.2 ∙ ap (part_of shown) z.2 ∙ ap (λ o. part_from same o (slice w z.0.start z.0.width)) (field-found shown z.0 z.0.name path.distinct z.1 refl) in
          subst (λ q. slice w q.start q.width ≡ q.value) (sym is) refl);
      is_rest = refl;
      holds = holds;
    };
  }
