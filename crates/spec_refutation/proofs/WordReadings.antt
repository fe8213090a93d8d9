-- A word, and a run of words, is read as exactly the value whose text it is.
use Rattle.std.proofs.Common.{◌≡◌, ℕ, zero, suc, ◌^◌, ◌<◌, ◌≤◌, ℤ, pos, negsuc, neg_ℤ, Bool, true, false, List, [], ◌∷◌, map, Option, Some, None, refl, sym, ap, ◌∙◌, subst, append-nil, arith}
use Rattle.std.specs.Prelude.{decimal, bytes_eq, nat_le, ◌==◌, ◌&&◌, option_map, if◌then◌else◌}
use Rattle.std.specs.Fmt.{signed_decimal}
use Rattle.std.specs.List.{AllByRecursion}
use Rattle.std.specs.Str.Parse.{digits_value}
use Rattle.std.proofs.lemmas.Bool.{and_parts, and_from, both_ways, leb-true, le-leb, eqb-true}
use Rattle.std.proofs.lemmas.Slice.Eq.{bytes_eq-Decides}
use Rattle.std.proofs.lemmas.Fmt.{decimal_is_IsNumeral}
use Rattle.spec_refutation.specs.Text.{begins_with_digit}
use Rattle.spec_refutation.specs.Reading.{IsLiteral}
use Rattle.spec_refutation.specs.LogReading.{where_true, both, from_all, number, literal}
use Rattle.spec_refutation.proofs.Numbers.{begins-decimal}

-- A reader gives a value exactly where it is good and its text was read.
pub record Exact {A B : Type 0} (read : B → Option A) (print : A → B) (Good : A → Type 0) : Type 0 where
  pub sound : (b : B) (a : A) → read b ≡ Some a → Good a × (b ≡ print a)
  pub complete : (a : A) → Good a → read (print a) ≡ Some a

module _ {A : Type 0} where
  pub where_true-Some : (t : Bool) (x a : A) → where_true t x ≡ Some a → (t ≡ true) × (x ≡ a)
  where_true-Some true x a e = (refl, cc)
  where_true-Some false x a e = absurd (cc)

  pub Some-same : {x y : A} → Some x ≡ Some y → x ≡ y
  Some-same e = cc

-- ---- numbers

module _ (least most : ℕ) (fits : most < 2 ^ 64) where
  pub number_exact : Exact (number least most) decimal (λ n. (least ≤ n) × (n ≤ most))
  number_exact = record { sound = sound; complete = complete }
    where
      sound : (word : List ℕ) (n : ℕ) → number least most word ≡ Some n → ((least ≤ n) × (n ≤ most)) × (word ≡ decimal n)
      sound word n e =
          let v = digits_value 10 word in
          let p = where_true-Some (nat_le least v && nat_le v most && bytes_eq (decimal v) word) v n e in
          let q = and_parts (nat_le least v && nat_le v most) (bytes_eq (decimal v) word) p.0 in
          let r = and_parts (nat_le least v) (nat_le v most) q.0 in
          ((omega (arith, leb-true least v r.0, p.1), omega (arith, leb-true v most r.1, p.1)), sym ((bytes_eq-Decides (decimal v) word).0 q.1) ∙ ap decimal p.1)

      complete : (n : ℕ) → (least ≤ n) × (n ≤ most) → number least most (decimal n) ≡ Some n
      complete n h =
          let value : digits_value 10 (decimal n) ≡ n = (decimal_is_IsNumeral n (omega (arith, h.1))).1 in
          let good : (nat_le least n && nat_le n most && bytes_eq (decimal n) (decimal n)) ≡ true =
          and_from (nat_le least n && nat_le n most) (bytes_eq (decimal n) (decimal n)) (and_from (nat_le least n) (nat_le n most) (le-leb least n h.0) (le-leb n most h.1)) ((bytes_eq-Decides (decimal n) (decimal n)).1 refl) in
          ap (λ v. where_true (nat_le least v && nat_le v most && bytes_eq (decimal v) (decimal n)) v) value ∙ ap (λ t. where_true t n) good

-- ---- literals

module _ (vars : ℕ) (few : vars ≤ 2147483647) where
  positive_number : Exact (number 1 vars) decimal (λ n. (1 ≤ n) × (n ≤ vars))
  positive_number = number_exact 1 vars (omega arith)

  negative_of : (n : ℕ) (bs : List ℕ) → ((1 ≤ n) × (n ≤ vars)) × (bs ≡ decimal n) → IsLiteral vars (neg_ℤ (pos n)) × (45 ∷ bs ≡ signed_decimal (neg_ℤ (pos n)))
  negative_of zero bs h = absurd (let low = h.0.0 in omega arith)
  negative_of (suc n) bs h = (record { some = omega arith; within = h.0.1 }, ap (λ ds. 45 ∷ ds) h.1)

  positive_of : (n : ℕ) (word : List ℕ) → ((1 ≤ n) × (n ≤ vars)) × (word ≡ decimal n) → IsLiteral vars (pos n) × (word ≡ signed_decimal (pos n))
  positive_of n word h = (record { some = omega (arith, h.0.0); within = h.0.1 }, h.1)

  literal_sound : (word : List ℕ) (l : ℤ) → literal vars word ≡ Some l → IsLiteral vars l × (word ≡ signed_decimal l)
  literal_sound [] l e = absurd (cc)
  literal_sound (b ∷ bs) l e = by_sign (b == 45) refl e
    where
      minus : b ≡ 45 → (read : Option ℕ) → number 1 vars bs ≡ read → option_map (λ n. neg_ℤ (pos n)) read ≡ Some l → IsLiteral vars l × (b ∷ bs ≡ signed_decimal l)
      minus is None r f = absurd (cc)
      minus is (Some n) r f =
          let same : neg_ℤ (pos n) ≡ l = Some-same f in
          let h = negative_of n bs (positive_number.sound bs n r) in
          let P : ℤ → Type 0 = λ z. IsLiteral vars z × (b ∷ bs ≡ signed_decimal z) in
          subst P same (h.0, ap (λ k. k ∷ bs) is ∙ h.1)

      plus : (read : Option ℕ) → number 1 vars (b ∷ bs) ≡ read → option_map pos read ≡ Some l → IsLiteral vars l × (b ∷ bs ≡ signed_decimal l)
      plus None r f = absurd (cc)
      plus (Some n) r f =
          let same : pos n ≡ l = Some-same f in
          let P : ℤ → Type 0 = λ z. IsLiteral vars z × (b ∷ bs ≡ signed_decimal z) in
          subst P same (positive_of n (b ∷ bs) (positive_number.sound (b ∷ bs) n r))

      by_sign : (t : Bool) → (b == 45) ≡ t → (if t then option_map (λ n. neg_ℤ (pos n)) (number 1 vars bs) else option_map pos (number 1 vars (b ∷ bs))) ≡ Some l → IsLiteral vars l × (b ∷ bs ≡ signed_decimal l)
      by_sign true is f = minus (eqb-true b 45 is) (number 1 vars bs) refl f
      by_sign false is f = plus (number 1 vars (b ∷ bs)) refl f

  unsigned_read : (word : List ℕ) → begins_with_digit word ≡ true → literal vars word ≡ option_map pos (number 1 vars word)
  unsigned_read [] h = absurd (cc)
  unsigned_read (b ∷ bs) h = go (b == 45) refl
    where
      go : (t : Bool) → (b == 45) ≡ t → (if t then option_map (λ n. neg_ℤ (pos n)) (number 1 vars bs) else option_map pos (number 1 vars (b ∷ bs))) ≡ option_map pos (number 1 vars (b ∷ bs))
      go true is = absurd (both_ways (begins_with_digit (45 ∷ bs)) refl (ap (λ k. begins_with_digit (k ∷ bs)) (sym (eqb-true b 45 is)) ∙ h))
      go false is = refl

  literal_complete : (l : ℤ) → IsLiteral vars l → literal vars (signed_decimal l) ≡ Some l
  literal_complete (pos n) h = unsigned_read (decimal n) (sym (ap begins_with_digit (append-nil (decimal n))) ∙ begins-decimal n [] (omega (arith, h.within))) ∙ ap (option_map pos) (positive_number.complete n (omega (arith, h.some), h.within))
  literal_complete (negsuc n) h = ap (option_map (λ n. neg_ℤ (pos n))) (positive_number.complete (suc n) (omega arith, h.within))

  pub literal_exact : Exact (literal vars) signed_decimal (IsLiteral vars)
  literal_exact = record { sound = literal_sound; complete = literal_complete }

-- ---- runs

module _ {A : Type 0} (read : List ℕ → Option A) (print : A → List ℕ) (Good : A → Type 0) (each : Exact read print Good) where
  pub from_all_exact : Exact (from_all read) (map print) (AllByRecursion Good)
  from_all_exact = record { sound = sound; complete = complete }
    where
      joins : (word : List ℕ) (words : List (List ℕ)) (all : List A) (one : Option A) (more : Option (List A))
          → ((a : A) → one ≡ Some a → Good a × (word ≡ print a)) → ((rest : List A) → more ≡ Some rest → AllByRecursion Good rest × (words ≡ map print rest))
          → both (λ x xs. x ∷ xs) one more ≡ Some all → AllByRecursion Good all × (word ∷ words ≡ map print all)
      joins word words all None more f g e = absurd (cc)
      joins word words all (Some a) None f g e = absurd (cc)
      joins word words all (Some a) (Some rest) f g e =
          let P : List A → Type 0 = λ z. AllByRecursion Good z × (word ∷ words ≡ map print z) in
          let h = f a refl in
          let k = g rest refl in
          subst P (Some-same e) ((h.0, k.0), ap (λ w. w ∷ words) h.1 ∙ ap (λ ws. print a ∷ ws) k.1)

      sound : (words : List (List ℕ)) (all : List A) → from_all read words ≡ Some all → AllByRecursion Good all × (words ≡ map print all)
      sound [] all e = let P : List A → Type 0 = λ z. AllByRecursion Good z × ([] ≡ map print z) in subst P (Some-same e) (tt, refl)
      sound (word ∷ words) all e = joins word words all (read word) (from_all read words) (each.sound word) (sound words) e

      complete : (all : List A) → AllByRecursion Good all → from_all read (map print all) ≡ Some all
      complete [] h = refl
      complete (a ∷ all) h = ap (λ o. both (λ x xs. x ∷ xs) o (from_all read (map print all))) (each.complete a h.0) ∙ ap (λ o. both (λ x xs. x ∷ xs) (Some a) o) (complete all h.1)
