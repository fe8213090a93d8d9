-- The first line, a clause's line and a step's line are read as exactly what they say.
use Rattle.std.proofs.Common.{◌≡◌, ℕ, suc, ◌+◌, ◌^◌, ◌<◌, ◌≤◌, ℤ, pos, negsuc, Bool, true, false, List, [], ◌∷◌, ◌++◌, map, Option, Some, None, refl, sym, ap, ◌∙◌, subst, append-nil, arith}
use Rattle.std.specs.Prelude.{codes, decimal, bytes_eq, nat_le, ◌&&◌, option_map, option_and_then, if◌then◌else◌}
use Rattle.std.specs.Fmt.{signed_decimal}
use Rattle.std.specs.List.{AllByRecursion}
use Rattle.std.specs.Str.Parse.{AllDigits}
use Rattle.std.proofs.lemmas.Bool.{and_parts, and_from, leb-true, le-leb, both_ways, cond-false, false_from_ne_true}
use Rattle.std.proofs.lemmas.List.{append_assoc}
use Rattle.std.proofs.lemmas.List.Folds.{flat_map-map}
use Rattle.std.proofs.lemmas.Grind.{flat_map-append}
use Rattle.std.proofs.lemmas.Slice.Eq.{bytes_eq-Decides}
use Rattle.std.proofs.lemmas.Str.Parse.{digit_from_value}
use Rattle.std.proofs.lemmas.Fmt.{decimal_is_IsNumeral}
use Rattle.spec_refutation.specs.Derivation.{Step}
use Rattle.spec_refutation.specs.Text.{begins_with_digit, spaced_literals, spaced_numbers, first_line, clause_line, step_line}
use Rattle.spec_refutation.specs.Reading.{AreCounts, IsLiteral, IsHint, IsClause, IsStep}
use Rattle.spec_refutation.specs.LogReading.{where_true, both, from_all, number, literal, Counts, counts_of, counts, clause, derivation, step}
use Rattle.spec_refutation.proofs.Numbers.{begins-decimal}
use Rattle.spec_refutation.proofs.Lines.{heads, clause_line_is, step_line_is, first_line_is}
use Rattle.spec_refutation.proofs.WordReadings.{Exact, where_true-Some, Some-same, number_exact, literal_exact, from_all_exact}
use Rattle.spec_refutation.proofs.LineReadings.{spaced, Clean, ExactLine, line_exact}

-- ---- words of digits are clean

digits_clean : (ds : List ℕ) → AllDigits 10 ds → Clean ds
digits_clean [] h = tt
digits_clean (d ∷ ds) h = (omega (arith, (digit_from_value d h.0).0), digits_clean ds h.1)

decimal_clean : (n : ℕ) → n < 2 ^ 64 → Clean (decimal n)
decimal_clean n h = digits_clean (decimal n) (decimal_is_IsNumeral n h).0.1

signed_clean : (vars : ℕ) (l : ℤ) → vars ≤ 2147483647 → IsLiteral vars l → Clean (signed_decimal l)
signed_clean vars (pos n) few h = decimal_clean n (omega (arith, h.within))
signed_clean vars (negsuc n) few h = (omega arith, decimal_clean (suc n) (omega (arith, h.within)))

all_clean : {A : Type 0} (print : A → List ℕ) (Good : A → Type 0) → ((a : A) → Good a → Clean (print a)) → (items : List A) → AllByRecursion Good items → AllByRecursion Clean (map print items)
all_clean print Good each [] h = tt
all_clean print Good each (a ∷ items) h = (each a h.0, all_clean print Good each items h.1)

both_clean : (words more : List (List ℕ)) → AllByRecursion Clean words → AllByRecursion Clean more → AllByRecursion Clean (words ++ more)
both_clean [] more h k = k
both_clean (word ∷ words) more h k = (h.0, both_clean words more h.1 k)

-- ---- a clause's line

module _ (vars : ℕ) (few : vars ≤ 2147483647) where
  literals_exact : Exact (from_all (literal vars)) (map signed_decimal) (IsClause vars)
  literals_exact = from_all_exact (literal vars) signed_decimal (IsLiteral vars) (literal_exact vars few)

  literals_clean : (ls : List ℤ) → IsClause vars ls → AllByRecursion Clean (map signed_decimal ls)
  literals_clean = all_clean signed_decimal (IsLiteral vars) (λ l h. signed_clean vars l few h)

  pub clause_exact : ExactLine (clause vars) clause_line (IsClause vars)
  clause_exact = line_exact (from_all (literal vars)) (codes "c") (map signed_decimal) (IsClause vars) literals_exact clause_line
      (λ c rest. clause_line_is c rest ∙ ap (λ z. 99 ∷ (z ++ 10 ∷ rest)) (sym (flat_map-map (λ word. 32 ∷ word) signed_decimal c)))
      (omega arith, tt) literals_clean

  -- ---- a step's line

  module _ (lines : ℕ) (fits : lines < 2 ^ 64) where
    hints_exact : Exact (from_all (number 1 lines)) (map decimal) (AllByRecursion (λ n. (1 ≤ n) × (n ≤ lines)))
    hints_exact = from_all_exact (number 1 lines) decimal (λ n. (1 ≤ n) × (n ≤ lines)) (number_exact 1 lines fits)

    are_hints : (hs : List ℕ) → AllByRecursion (λ n. (1 ≤ n) × (n ≤ lines)) hs → AllByRecursion (IsHint lines) hs
    are_hints [] h = tt
    are_hints (n ∷ hs) h = (record { some = omega (arith, h.0.0); within = h.0.1 }, are_hints hs h.1)

    from_hints : (hs : List ℕ) → AllByRecursion (IsHint lines) hs → AllByRecursion (λ n. (1 ≤ n) × (n ≤ lines)) hs
    from_hints [] h = tt
    from_hints (n ∷ hs) h = ((omega (arith, h.0.some), h.0.within), from_hints hs h.1)

    -- the words of a step behind the first
    abbrev step_words : Step → List (List ℕ)
    step_words s = map signed_decimal s.0 ++ codes ":" ∷ map decimal s.1

    no_colon : (l : ℤ) → IsLiteral vars l → bytes_eq (signed_decimal l) (codes ":") ≡ false
    no_colon (pos n) h = false_from_ne_true (bytes_eq (decimal n) (codes ":")) (λ e.
        both_ways (begins_with_digit (codes ":")) refl (ap begins_with_digit (sym ((bytes_eq-Decides (decimal n) (codes ":")).0 e)) ∙ (sym (ap begins_with_digit (append-nil (decimal n))) ∙ begins-decimal n [] (omega (arith, h.within)))))
    no_colon (negsuc n) h = false_from_ne_true (bytes_eq (signed_decimal (negsuc n)) (codes ":")) (λ e.
        let p : ◌≡◌ {A = ℕ} 45 58 = heads ((bytes_eq-Decides (signed_decimal (negsuc n)) (codes ":")).0 e) in omega arith)

    derivation_sound : (words : List (List ℕ)) (s : Step) → derivation vars lines words ≡ Some s → IsStep vars lines s × (words ≡ step_words s)
    derivation_sound [] s e = absurd (cc)
    derivation_sound (word ∷ words) s e = go (bytes_eq word (codes ":")) refl (derivation_sound words) e
      where
        Is : Step → Type 0
        Is z = IsStep vars lines z × (word ∷ words ≡ step_words z)

        colon : word ≡ codes ":" → (read : Option (List ℕ)) → from_all (number 1 lines) words ≡ read → option_map (λ hints. ([], hints)) read ≡ Some s → Is s
        colon is None r f = absurd (cc)
        colon is (Some hs) r f =
            let h = hints_exact.sound words hs r in
            let same : ◌≡◌ {A = Step} ([], hs) s = Some-same f in
            subst Is same (record { clause = tt; hints = are_hints hs h.0 }, ap (λ w. w ∷ words) is ∙ ap (λ ws. codes ":" ∷ ws) h.1)

        joins : ((z : Step) → derivation vars lines words ≡ Some z → IsStep vars lines z × (words ≡ step_words z)) → (one : Option ℤ) → literal vars word ≡ one → (more : Option Step) → derivation vars lines words ≡ more → both (λ (l : ℤ) (z : Step). (l ∷ z.0, z.1)) one more ≡ Some s → Is s
        joins ih None r more q f = absurd (cc)
        joins ih (Some l) r None q f = absurd (cc)
        joins ih (Some l) r (Some z) q f =
            let h = (literal_exact vars few).sound word l r in
            let k = ih z q in
            let same : ◌≡◌ {A = Step} (l ∷ z.0, z.1) s = Some-same f in
            subst Is same (record { clause = (h.0, k.0.clause); hints = k.0.hints }, ap (λ w. w ∷ words) h.1 ∙ ap (λ ws. signed_decimal l ∷ ws) k.1)

        go : (t : Bool) → bytes_eq word (codes ":") ≡ t → ((z : Step) → derivation vars lines words ≡ Some z → IsStep vars lines z × (words ≡ step_words z))
            → (if t then option_map (λ hints. ([], hints)) (from_all (number 1 lines) words) else both (λ (l : ℤ) (z : Step). (l ∷ z.0, z.1)) (literal vars word) (derivation vars lines words)) ≡ Some s → Is s
        go true is ih f = colon ((bytes_eq-Decides word (codes ":")).0 is) (from_all (number 1 lines) words) refl f
        go false is ih f = joins ih (literal vars word) refl (derivation vars lines words) refl f

    derivation_complete : (ls : List ℤ) (hs : List ℕ) → IsClause vars ls → AllByRecursion (IsHint lines) hs → derivation vars lines (step_words (ls, hs)) ≡ Some (ls, hs)
    derivation_complete [] hs g h = ap (option_map (λ hints. ([], hints))) (hints_exact.complete hs (from_hints hs h))
    derivation_complete (l ∷ ls) hs g h =
        let words = step_words (ls, hs) in
        cond-false (bytes_eq (signed_decimal l) (codes ":")) (option_map (λ hints. ([], hints)) (from_all (number 1 lines) words)) (both (λ (x : ℤ) (z : Step). (x ∷ z.0, z.1)) (literal vars (signed_decimal l)) (derivation vars lines words)) (no_colon l g.0)
        ∙ ap (λ o. both (λ (x : ℤ) (z : Step). (x ∷ z.0, z.1)) o (derivation vars lines words)) ((literal_exact vars few).complete l g.0)
        ∙ ap (λ o. both (λ (x : ℤ) (z : Step). (x ∷ z.0, z.1)) (Some l) o) (derivation_complete ls hs g.1 h)

    step_clean : (s : Step) → IsStep vars lines s → AllByRecursion Clean (step_words s)
    step_clean s h = both_clean (map signed_decimal s.0) (codes ":" ∷ map decimal s.1) (literals_clean s.0 h.clause)
        ((omega arith, tt), all_clean decimal (IsHint lines) (λ n g. decimal_clean n (omega (arith, g.within))) s.1 h.hints)

    step_spaced : (s : Step) → spaced (step_words s) ≡ spaced_literals s.0 ++ (32 ∷ 58 ∷ spaced_numbers s.1)
    step_spaced s =
        flat_map-append (λ word. 32 ∷ word) (map signed_decimal s.0) (codes ":" ∷ map decimal s.1)
        ∙ ap (λ z. z ++ (32 ∷ 58 ∷ spaced (map decimal s.1))) (flat_map-map (λ word. 32 ∷ word) signed_decimal s.0)
        ∙ ap (λ z. spaced_literals s.0 ++ (32 ∷ 58 ∷ z)) (flat_map-map (λ word. 32 ∷ word) decimal s.1)

    pub step_exact : ExactLine (step vars lines) step_line (IsStep vars lines)
    step_exact = line_exact (derivation vars lines) (codes "s") step_words (IsStep vars lines)
        (record { sound = derivation_sound; complete = λ s h. derivation_complete s.0 s.1 h.clause h.hints }) step_line
        (λ s rest. step_line_is s rest ∙ ap (λ z. 115 ∷ z) (sym (append_assoc (spaced_literals s.0) (32 ∷ 58 ∷ spaced_numbers s.1) (10 ∷ rest)) ∙ ap (λ z. z ++ 10 ∷ rest) (sym (step_spaced s))))
        (omega arith, tt) step_clean

-- ---- the first line

abbrev most : ℕ
most = 18446744073709551615

abbrev pub GoodCounts : Counts → Type 0
GoodCounts n = AreCounts n.vars n.clauses n.steps

abbrev pub counts_line : Counts → List ℕ
counts_line n = first_line n.vars n.clauses n.steps

abbrev numbers : Counts → List ℕ
numbers n = n.vars ∷ n.clauses ∷ n.steps ∷ []

numbers_exact : Exact (from_all (number 0 most)) (map decimal) (AllByRecursion (λ n. (0 ≤ n) × (n ≤ most)))
numbers_exact = from_all_exact (number 0 most) decimal (λ n. (0 ≤ n) × (n ≤ most)) (number_exact 0 most (omega arith))

counts_of-sound : (ns : List ℕ) (n : Counts) → counts_of ns ≡ Some n → GoodCounts n × (ns ≡ numbers n)
counts_of-sound [] n e = absurd (cc)
counts_of-sound (v ∷ []) n e = absurd (cc)
counts_of-sound (v ∷ c ∷ []) n e = absurd (cc)
counts_of-sound (v ∷ c ∷ s ∷ []) n e =
    let p = where_true-Some (nat_le v 2147483647 && nat_le (c + s) most) (record { vars = v; clauses = c; steps = s }) n e in
    let q = and_parts (nat_le v 2147483647) (nat_le (c + s) most) p.0 in
    let P : Counts → Type 0 = λ z. GoodCounts z × (v ∷ c ∷ s ∷ [] ≡ numbers z) in
    subst P p.1 (record { few_vars = leb-true v 2147483647 q.0; few_lines = leb-true (c + s) most q.1 }, refl)
counts_of-sound (v ∷ c ∷ s ∷ t ∷ ns) n e = absurd (cc)

counts_of-complete : (n : Counts) → GoodCounts n → counts_of (numbers n) ≡ Some n
counts_of-complete n h = ap (λ t. where_true t n) (and_from (nat_le n.vars 2147483647) (nat_le (n.clauses + n.steps) most) (le-leb n.vars 2147483647 h.few_vars) (le-leb (n.clauses + n.steps) most h.few_lines))

three_exact : Exact (λ words. option_and_then counts_of (from_all (number 0 most) words)) (λ n. map decimal (numbers n)) GoodCounts
three_exact = record { sound = sound; complete = complete }
  where
    go : (words : List (List ℕ)) (n : Counts) (read : Option (List ℕ)) → from_all (number 0 most) words ≡ read → option_and_then counts_of read ≡ Some n → GoodCounts n × (words ≡ map decimal (numbers n))
    go words n None r f = absurd (cc)
    go words n (Some ns) r f = let h = counts_of-sound ns n f in (h.0, (numbers_exact.sound words ns r).1 ∙ ap (map decimal) h.1)

    sound : (words : List (List ℕ)) (n : Counts) → option_and_then counts_of (from_all (number 0 most) words) ≡ Some n → GoodCounts n × (words ≡ map decimal (numbers n))
    sound words n e = go words n (from_all (number 0 most) words) refl e

    complete : (n : Counts) → GoodCounts n → option_and_then counts_of (from_all (number 0 most) (map decimal (numbers n))) ≡ Some n
    complete n h = ap (option_and_then counts_of) (numbers_exact.complete (numbers n)
        ((omega arith, omega (arith, h.few_vars)), ((omega arith, omega (arith, h.few_lines)), ((omega arith, omega (arith, h.few_lines)), tt)))) ∙ counts_of-complete n h

pub counts_exact : ExactLine counts counts_line GoodCounts
counts_exact = line_exact (λ words. option_and_then counts_of (from_all (number 0 most) words)) (codes "p") (λ n. map decimal (numbers n)) GoodCounts three_exact counts_line
    (λ n rest. first_line_is n.vars n.clauses n.steps rest)
    (omega arith, tt)
    (λ n h. all_clean decimal (λ (k : ℕ). k < 2 ^ 64) (λ k g. decimal_clean k g) (numbers n) (omega (arith, h.few_vars), (omega (arith, h.few_lines), (omega (arith, h.few_lines), tt))))
