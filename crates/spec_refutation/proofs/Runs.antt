-- Texts that are made of the texts of items, one after another.
use Rattle.std.proofs.Common.{◌≡◌, ◌≢◌, ℕ, ◌<◌, List, [], ◌∷◌, ◌++◌, length, refl, sym, ap, ◌∙◌, subst, ◌⊎◌, inl, inr, ⊎_elim, arith}
use Rattle.std.specs.Prelude.{flat_map}
use Rattle.std.specs.List.{AllByRecursion}
use Rattle.std.proofs.lemmas.List.{append_assoc, append-nil, length-append}

-- what holds of each element of two lists in a row holds of each of the second
pub all_right : {A : Type 0} (P : A → Type 0) (xs ys : List A) → AllByRecursion P (xs ++ ys)
    → AllByRecursion P ys
all_right P [] ys h = h
all_right P (x ∷ xs) ys h = all_right P xs ys h.1

-- `print` writes an item. An item's text ends before bytes of which `Stops` holds, and no text there is that of two items.
module _ {A : Type 0} (print : A → List ℕ) (Good : A → Type 0) (Stops : List ℕ → Type 0) where
  -- ys are xs and more, and the text of those begins what follows xs
  pub record Extends (xs ys : List A) (r t : List ℕ) : Type 0 where
    pub more : List A
    pub whole : ys ≡ xs ++ more
    pub rest : r ≡ flat_map print more ++ t

  -- no item begins the bytes
  abbrev pub NoItem : List ℕ → Type 0
  NoItem t = (a : A) (z : List ℕ) → Good a → Stops z → t ≢ print a ++ z

  module _ (begins : (a : A) (z : List ℕ) → Stops (print a ++ z))
      (one : (a b : A) (x y : List ℕ) → Good a → Good b → Stops x → Stops y → print a ++ x ≡ print b ++ y
      → (a ≡ b) × (x ≡ y)) where
    stops_after : (xs : List A) (r : List ℕ) → Stops r → Stops (flat_map print xs ++ r)
    stops_after [] r h = h
    stops_after (x ∷ xs) r h = let P : List ℕ → Type 0 = Stops in subst P (sym (append_assoc (print x) (flat_map print xs) r)) (begins x (flat_map print xs ++ r))

    -- of two ways to read one text, one goes on where the other ends
    pub one_run : (xs ys : List A) (r t : List ℕ) → AllByRecursion Good xs → AllByRecursion Good ys
        → (0 < length xs → Stops r) → (0 < length ys → Stops t)
        → flat_map print xs ++ r ≡ flat_map print ys ++ t → Extends xs ys r t ⊎ Extends ys xs t r
    one_run [] ys r t gx gy sx sy e = inl (record { more = ys; whole = refl; rest = e })
    one_run (x ∷ xs) [] r t gx gy sx sy e = inr (record { more = x ∷ xs; whole = refl; rest = sym e })
    one_run (x ∷ xs) (y ∷ ys) r t gx gy sx sy e =
        let sr : Stops r = sx (omega arith) in
        let st : Stops t = sy (omega arith) in
        let p = one x y (flat_map print xs ++ r) (flat_map print ys ++ t) gx.0 gy.0 (stops_after xs r sr) (stops_after ys t st)
        (sym (append_assoc (print x) (flat_map print xs) r) ∙ e ∙ append_assoc (print y) (flat_map print ys) t) in
        ⊎_elim
        (λ (q : Extends xs ys r t). inl (record { more = q.more; whole = ap (λ z. z ∷ ys) (sym p.0) ∙ ap (λ zs. x ∷ zs) q.whole; rest = q.rest }))
        (λ (q : Extends ys xs t r). inr (record { more = q.more; whole = ap (λ z. z ∷ xs) p.0 ∙ ap (λ zs. y ∷ zs) q.whole; rest = q.rest }))
        (one_run xs ys r t gx.1 gy.1 (λ _. sr) (λ _. st) p.1)

    -- what goes on begins with an item
    goes_on : (xs ys : List A) (r t : List ℕ) → AllByRecursion Good ys → (0 < length ys → Stops t) → NoItem r
        → Extends xs ys r t → (xs ≡ ys) × (r ≡ t)
    goes_on xs ys r t gy st none q = go q.more q.whole q.rest
      where
        go : (more : List A) → ys ≡ xs ++ more → r ≡ flat_map print more ++ t → (xs ≡ ys) × (r ≡ t)
        go [] w e = (sym (w ∙ append-nil xs), e)
        go (a ∷ more) w e =
            let good : AllByRecursion Good (a ∷ more) = all_right Good xs (a ∷ more) (let P : List A → Type 0 = AllByRecursion Good in subst P w gy) in
            let stop : Stops t = st (let l : length ys ≡ length (xs ++ a ∷ more) = ap length w in omega (arith, l, length-append xs (a ∷ more))) in
            absurd (none a (flat_map print more ++ t) good.0 (stops_after more t stop) (e ∙ append_assoc (print a) (flat_map print more) t))

    -- two ways to read one text that both end where no item begins are one
    pub same_run : (xs ys : List A) (r t : List ℕ) → AllByRecursion Good xs → AllByRecursion Good ys
        → (0 < length xs → Stops r) → (0 < length ys → Stops t)
        → NoItem r → NoItem t → flat_map print xs ++ r ≡ flat_map print ys ++ t → (xs ≡ ys) × (r ≡ t)
    same_run xs ys r t gx gy sx sy nr nt e =
        ⊎_elim (goes_on xs ys r t gy sy nr) (λ q. let p = goes_on ys xs t r gx sx nt q in (sym p.0, sym p.1)) (one_run xs ys r t gx gy sx sy e)
