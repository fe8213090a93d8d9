-- A key that is put into a table.
use Rattle.std.proofs.Common.{◌≡◌, ◌⊎◌, ℕ, zero, suc, ◌+◌, ◌<◌, ◌≤◌, Bool, true, false, cond, ◌||◌, List, [], ◌∷◌, ◌++◌, length, Some, slice_get, refl, sym, ap, ◌∙◌, subst, inl, inr, ⊎_elim, arith, append-nil}
use Rattle.std.specs.List.{list_any}
use Rattle.std.proofs.lemmas.Bool.{both_ways}
use Rattle.std.proofs.lemmas.Option.{slice_get_within}
use Rattle.std.proofs.lemmas.List.{length-append}
use Rattle.mrs_names.proofs.ListLaws.{slice_get-append, slice_get-append_end}
use Rattle.indexmap.specs.IndexSet.{insert_key}
use Rattle.expr_classes.specs.declared.key.Key.{Key}
use Rattle.expr_classes.specs.Terms.{Term, term_of, terms_behind, HasTerms, AreApart, AreKeys}
use Rattle.expr_classes.proofs.Keys.{key_eq, key_refl, same_key}
use Rattle.expr_classes.proofs.Injective.{injective}
use Rattle.expr_classes.proofs.Growing.{term_stays, terms_last, parts_last, terms_length, key_at}

some_at : {X : Type 0} (xs : List X) (p : ℕ) → p < length xs → (x : X) × (slice_get xs p ≡ Some x)
some_at [] p lt = absurd (omega (arith, lt))
some_at (x ∷ xs) zero lt = (x, refl)
some_at (x ∷ xs) (suc p) lt = some_at xs p (omega (arith, lt))

any_at : {X : Type 0} (test : X → Bool) (xs : List X) (p : ℕ) (x : X) → slice_get xs p ≡ Some x → test x ≡ true → list_any test xs ≡ true
any_at test [] p x e t = absurd cc
any_at test (y ∷ xs) zero x e t = let same : y ≡ x = cc in ap (λ b. b || list_any test xs) (ap test same ∙ t)
any_at test (y ∷ xs) (suc p) x e t = go (test y) (any_at test xs p x e t)
  where
    go : (b : Bool) → list_any test xs ≡ true → (b || list_any test xs) ≡ true
    go true h = refl
    go false h = h

-- one more term that no other is
apart_last : (terms : List Term) (t : Term) → AreApart terms → ((p : ℕ) → slice_get terms p ≡ Some t → ⊥) → AreApart (terms ++ t ∷ [])
apart_last terms t apart new p q x ep eq = ⊎_elim
    (λ lp. ⊎_elim
    (λ lq. apart p q x (sym (slice_get-append terms (t ∷ []) p lp) ∙ ep) (sym (slice_get-append terms (t ∷ []) q lq) ∙ eq))
    (λ gq. absurd (new p (sym (slice_get-append terms (t ∷ []) p lp) ∙ ep ∙ ap Some (last q x eq gq)))) (sides q (length terms)))
    (λ gp. ⊎_elim
    (λ lq. absurd (new q (sym (slice_get-append terms (t ∷ []) q lq) ∙ eq ∙ ap Some (last p x ep gp))))
    (λ gq. end p x ep gp ∙ sym (end q x eq gq)) (sides q (length terms)))
    (sides p (length terms))
  where
    sides : (a b : ℕ) → (a < b) ⊎ (b ≤ a)
    sides a zero = inr (omega arith)
    sides zero (suc b) = inl (omega arith)
    sides (suc a) (suc b) = ⊎_elim (λ l. inl (omega (arith, l))) (λ l. inr (omega (arith, l))) (sides a b)

    end : (p : ℕ) (x : Term) → slice_get (terms ++ t ∷ []) p ≡ Some x → length terms ≤ p → p ≡ length terms
    end p x e le = omega (arith, slice_get_within (terms ++ t ∷ []) p x e, length-append terms (t ∷ []), le)

    last : (p : ℕ) (x : Term) → slice_get (terms ++ t ∷ []) p ≡ Some x → length terms ≤ p → x ≡ t
    last p x e le =
        let here : Some x ≡ Some t = sym e ∙ ap (slice_get (terms ++ t ∷ [])) (end p x e le) ∙ slice_get-append_end terms t [] in
        cc

-- what comes of a key that is put
pub record Inserted (ks new : List Key) (k : Key) (c : ℕ) : Type 0 where
  pub keys : AreKeys new
  pub class : slice_get (terms_behind [] new) c ≡ Some (term_of (terms_behind [] ks) k)
  pub more : (more : List Term) × (terms_behind [] new ≡ terms_behind [] ks ++ more)

pub inserted : (ks new : List Key) (k l : Key) (c : ℕ) → AreKeys ks → HasTerms (terms_behind [] ks) k → new ≡ insert_key key_eq ks k → slice_get new c ≡ Some l → key_eq k l ≡ true → Inserted ks new k c
inserted ks new k l c are parts new_is at same = go (list_any (key_eq k) ks) refl new_is
  where
    here : slice_get new c ≡ Some k
    here = at ∙ ap Some (sym (same_key k l same))

    found : new ≡ ks → Inserted ks new k c
    found e =
        let P : List Key → Type 0 = λ ls. Inserted ks ls k c in
        let stands = key_at [] ks are.parts c k (ap (λ ls. slice_get ls c) (sym e) ∙ here) in
        subst P (sym e) (record {
          keys = are;
          class = ap (slice_get (terms_behind [] ks)) (zero_add c) ∙ stands.term;
          more = ([], sym (append-nil (terms_behind [] ks)));
        })
      where
        zero_add : (n : ℕ) → n ≡ 0 + n
        zero_add n = omega arith

    added : list_any (key_eq k) ks ≡ false → new ≡ ks ++ k ∷ [] → Inserted ks new k c
    added none e =
        let terms = terms_behind [] ks in
        let t = term_of terms k in
        let P : List Key → Type 0 = λ ls. Inserted ks ls k c in
        let Q : List Term → Type 0 = λ ts. AreApart ts in
        let last = terms_last [] ks k in
        let all_parts = parts_last [] ks k are.parts parts in
        let fresh : (p : ℕ) → slice_get terms p ≡ Some t → ⊥ = λ p h. not_there p h in
        let stands = key_at [] (ks ++ k ∷ []) all_parts c k (ap (λ ls. slice_get ls c) (sym e) ∙ here) in
        subst P (sym e) (record {
          keys = record { parts = all_parts; apart = subst Q (sym last) (apart_last terms t are.apart fresh) };
          class = ap (slice_get (terms_behind [] (ks ++ k ∷ []))) (zero_add c) ∙ stands.term ∙ ap (λ ts. Some (term_of ts k)) last ∙ ap Some (term_stays terms (t ∷ []) k parts);
          more = (t ∷ [], last);
        })
      where
        zero_add : (n : ℕ) → n ≡ 0 + n
        zero_add n = omega arith

        both_some : {x y : Term} → Some x ≡ Some y → x ≡ y
        both_some e = cc

        not_there : (p : ℕ) → slice_get (terms_behind [] ks) p ≡ Some (term_of (terms_behind [] ks) k) → ⊥
        not_there p h =
            let there = some_at ks p (omega (arith, slice_get_within (terms_behind [] ks) p (term_of (terms_behind [] ks) k) h, terms_length [] ks)) in
            let stands = key_at [] ks are.parts p there.0 there.1 in
            let one : term_of (terms_behind [] ks) k ≡ term_of (terms_behind [] ks) there.0 = both_some (sym h ∙ ap (slice_get (terms_behind [] ks)) (zero_add p) ∙ stands.term) in
            let keys : k ≡ there.0 = injective (terms_behind [] ks) are.apart k there.0 parts stands.parts one in
            both_ways (list_any (key_eq k) ks) none (any_at (key_eq k) ks p there.0 there.1 (ap (key_eq k) (sym keys) ∙ key_refl k))

    go : (b : Bool) → list_any (key_eq k) ks ≡ b → new ≡ cond b ks (ks ++ k ∷ []) → Inserted ks new k c
    go true e is = found is
    go false e is = added e is

-- the same by the terms before
pub record Put (old : List Term) (new : List Key) (k : Key) (c : ℕ) : Type 0 where
  pub keys : AreKeys new
  pub class : slice_get (terms_behind [] new) c ≡ Some (term_of old k)
  pub more : (more : List Term) × (terms_behind [] new ≡ old ++ more)

pub put : (old : List Term) (ks new : List Key) (k l : Key) (c : ℕ) → terms_behind [] ks ≡ old → AreKeys ks → HasTerms old k → new ≡ insert_key key_eq ks k → slice_get new c ≡ Some l → key_eq k l ≡ true → Put old new k c
put old ks new k l c view are parts new_is at same =
    let P : List Term → Type 0 = λ ts. HasTerms ts k in
    let Q : List Term → Type 0 = λ ts. Put ts new k c in
    let i = inserted ks new k l c are (subst P (sym view) parts) new_is at same in
    subst Q view (record { keys = i.keys; class = i.class; more = i.more })
