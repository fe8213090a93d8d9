-- A line is read as exactly the value whose text it is.
use Rattle.std.proofs.Common.{◌≡◌, ℕ, ◌<◌, Bool, true, false, List, [], ◌∷◌, ◌++◌, Option, Some, None, refl, sym, ap, ◌∙◌, subst, arith}
use Rattle.std.specs.Prelude.{◌==◌, flat_map, bytes_eq, option_map, option_and_then, if◌then◌else◌}
use Rattle.std.specs.List.{AllByRecursion}
use Rattle.std.proofs.lemmas.Bool.{eqb-true, ne_eqb, cond-true}
use Rattle.std.proofs.lemmas.Slice.Eq.{bytes_eq-Decides}
use Rattle.spec_refutation.specs.LogReading.{onto, apart, words_of, line_with, line_of, from_line, behind}
use Rattle.spec_refutation.proofs.WordReadings.{Exact, Some-same}

-- ---- words

-- the words of a line in a row, each behind a space
abbrev pub spaced : List (List ℕ) → List ℕ
spaced words = flat_map (λ word. 32 ∷ word) words

-- the line of these words
abbrev pub glued : List (List ℕ) → List ℕ
glued [] = []
glued (word ∷ words) = word ++ spaced words

-- no byte of it is a space or a line feed
abbrev pub Clean : List ℕ → Type 0
Clean word = AllByRecursion (λ b. 32 < b) word

pub record Parted (line : List ℕ) : Type 0 where
  pub word : List ℕ
  pub words : List (List ℕ)
  pub is : words_of line ≡ word ∷ words
  pub whole : line ≡ word ++ spaced words

parted : (line : List ℕ) → Parted line
parted [] = record { word = []; words = []; is = refl; whole = refl }
parted (b ∷ bs) = go (b == 32) refl (parted bs)
  where
    go : (t : Bool) → (b == 32) ≡ t → Parted bs → Parted (b ∷ bs)
    go true is rest = record {
      word = [];
      words = rest.word ∷ rest.words;
      is = ap (λ t. apart t b (words_of bs)) is ∙ ap (λ ws. [] ∷ ws) rest.is;
      whole = ap (λ k. k ∷ bs) (eqb-true b 32 is) ∙ ap (λ z. 32 ∷ z) rest.whole;
    }
    go false is rest = record {
      word = b ∷ rest.word;
      words = rest.words;
      is = ap (λ t. apart t b (words_of bs)) is ∙ ap (onto b) rest.is;
      whole = ap (λ z. b ∷ z) rest.whole;
    }

-- the line of a line's words is the line
pub glued-words_of : (line : List ℕ) → line ≡ glued (words_of line)
glued-words_of line = let p = parted line in p.whole ∙ sym (ap glued p.is)

word_then : (word rest : List ℕ) (words : List (List ℕ)) → Clean word → words_of rest ≡ [] ∷ words → words_of (word ++ rest) ≡ word ∷ words
word_then [] rest words h e = e
word_then (b ∷ bs) rest words h e = ap (λ t. apart t b (words_of (bs ++ rest))) (ne_eqb b 32 (λ same. omega (arith, h.0))) ∙ ap (onto b) (word_then bs rest words h.1 e)

-- the words of the line of words are these
pub words_of-glued : (word : List ℕ) (words : List (List ℕ)) → Clean word → AllByRecursion Clean words → words_of (glued (word ∷ words)) ≡ word ∷ words
words_of-glued word [] h all = word_then word [] [] h refl
words_of-glued word (next ∷ words) h all = word_then word (32 ∷ (next ++ spaced words)) (next ∷ words) h (ap (λ ws. [] ∷ ws) (words_of-glued next words all.0 all.1))

-- ---- the first line of a text

abbrev pub Unbroken : List ℕ → Type 0
Unbroken line = AllByRecursion (λ b. 10 < b) line

clean_unbroken : (word rest : List ℕ) → Clean word → Unbroken rest → Unbroken (word ++ rest)
clean_unbroken [] rest h u = u
clean_unbroken (b ∷ bs) rest h u = (let low = h.0 in omega arith, clean_unbroken bs rest h.1 u)

glued_unbroken : (word : List ℕ) (words : List (List ℕ)) → Clean word → AllByRecursion Clean words → Unbroken (glued (word ∷ words))
glued_unbroken word [] h all = clean_unbroken word [] h tt
glued_unbroken word (next ∷ words) h all = clean_unbroken word (32 ∷ (next ++ spaced words)) h (omega arith, glued_unbroken next words all.0 all.1)

line_of-complete : (line rest : List ℕ) → Unbroken line → line_of (line ++ 10 ∷ rest) ≡ Some (line, rest)
line_of-complete [] rest u = refl
line_of-complete (b ∷ bs) rest u =
    ap (λ t. line_with t b (bs ++ 10 ∷ rest) (line_of (bs ++ 10 ∷ rest))) (ne_eqb b 10 (λ same. omega (arith, u.0))) ∙ ap (option_map (λ (p : List ℕ × List ℕ). (b ∷ p.0, p.1))) (line_of-complete bs rest u.1)

line_of-sound : (text line rest : List ℕ) → line_of text ≡ Some (line, rest) → text ≡ line ++ 10 ∷ rest
line_of-sound [] line rest e = absurd (cc)
line_of-sound (b ∷ bs) line rest e = go (b == 10) refl (line_of bs) (line_of-sound bs) e
  where
    Is : List ℕ × List ℕ → Type 0
    Is p = b ∷ bs ≡ p.0 ++ 10 ∷ p.1

    go : (t : Bool) → (b == 10) ≡ t → (more : Option (List ℕ × List ℕ)) → ((l r : List ℕ) → more ≡ Some (l, r) → bs ≡ l ++ 10 ∷ r) → line_with t b bs more ≡ Some (line, rest) → b ∷ bs ≡ line ++ 10 ∷ rest
    go true is more ih f = let same : ◌≡◌ {A = List ℕ × List ℕ} ([], bs) (line, rest) = Some-same f in
        ap (λ k. k ∷ bs) (eqb-true b 10 is) ∙ ap (λ (p : List ℕ × List ℕ). p.0 ++ 10 ∷ p.1) same
    go false is None ih f = absurd (cc)
    go false is (Some p) ih f = let same : ◌≡◌ {A = List ℕ × List ℕ} (b ∷ p.0, p.1) (line, rest) = Some-same f in
        ap (λ z. b ∷ z) (ih p.0 p.1 refl) ∙ ap (λ (q : List ℕ × List ℕ). q.0 ++ 10 ∷ q.1) same

-- ---- what a line is read as

-- A reader of lines gives a value exactly where it is good and its text was read.
pub record ExactLine {A : Type 0} (read : List (List ℕ) → Option A) (print : A → List ℕ) (Good : A → Type 0) : Type 0 where
  pub sound : (text rest : List ℕ) (a : A) → from_line read text ≡ Some (a, rest) → Good a × (text ≡ print a ++ rest)
  pub complete : (a : A) (rest : List ℕ) → Good a → from_line read (print a ++ rest) ≡ Some (a, rest)

module _ {A : Type 0} (read : List (List ℕ) → Option A) (first : List ℕ) (worded : A → List (List ℕ)) (Good : A → Type 0)
    (each : Exact read worded Good) where
  behind-exact : Exact (behind first read) (λ a. first ∷ worded a) Good
  behind-exact = record { sound = sound; complete = complete }
    where
      sound : (words : List (List ℕ)) (a : A) → behind first read words ≡ Some a → Good a × (words ≡ first ∷ worded a)
      sound [] a e = absurd (cc)
      sound (word ∷ words) a e = go (bytes_eq word first) refl e
        where
          go : (t : Bool) → bytes_eq word first ≡ t → (if t then read words else None) ≡ Some a → Good a × (word ∷ words ≡ first ∷ worded a)
          go true is f = let h = each.sound words a f in (h.0, ap (λ w. w ∷ words) ((bytes_eq-Decides word first).0 is) ∙ ap (λ ws. first ∷ ws) h.1)
          go false is f = absurd (cc)

      complete : (a : A) → Good a → behind first read (first ∷ worded a) ≡ Some a
      complete a h = cond-true (bytes_eq first first) (read (worded a)) None ((bytes_eq-Decides first first).1 refl) ∙ each.complete a h

  module _ (print : A → List ℕ) (printed : (a : A) (rest : List ℕ) → print a ++ rest ≡ glued (first ∷ worded a) ++ 10 ∷ rest)
      (clean : Clean first) (all_clean : (a : A) → Good a → AllByRecursion Clean (worded a)) where
    pub line_exact : ExactLine (behind first read) print Good
    line_exact = record { sound = sound; complete = complete }
      where
        Is : List ℕ → A × List ℕ → Type 0
        Is text p = Good p.0 × (text ≡ print p.0 ++ p.1)

        by_words : (text line rest : List ℕ) → text ≡ line ++ 10 ∷ rest → (found : Option A) → behind first read (words_of line) ≡ found
            → (p : A × List ℕ) → option_map (λ a. (a, rest)) found ≡ Some p → Is text p
        by_words text line rest whole None e p f = absurd (cc)
        by_words text line rest whole (Some a) e p f =
            let h = behind-exact.sound (words_of line) a e in
            let same : ◌≡◌ {A = A × List ℕ} (a, rest) p = Some-same f in
            subst (Is text) same (h.0, whole ∙ ap (λ z. z ++ 10 ∷ rest) (glued-words_of line ∙ ap glued h.1) ∙ sym (printed a rest))

        by_line : (text : List ℕ) (line : Option (List ℕ × List ℕ)) → ((l r : List ℕ) → line ≡ Some (l, r) → text ≡ l ++ 10 ∷ r)
            → (p : A × List ℕ) → option_and_then (λ l. option_map (λ a. (a, l.1)) (behind first read (words_of l.0))) line ≡ Some p → Is text p
        by_line text None whole p f = absurd (cc)
        by_line text (Some l) whole p f = by_words text l.0 l.1 (whole l.0 l.1 refl) (behind first read (words_of l.0)) refl p f

        sound : (text rest : List ℕ) (a : A) → from_line (behind first read) text ≡ Some (a, rest) → Good a × (text ≡ print a ++ rest)
        sound text rest a e = by_line text (line_of text) (line_of-sound text) (a, rest) e

        complete : (a : A) (rest : List ℕ) → Good a → from_line (behind first read) (print a ++ rest) ≡ Some (a, rest)
        complete a rest h =
            let line = glued (first ∷ worded a) in
            let onward : Option (List ℕ × List ℕ) → Option (A × List ℕ) = option_and_then (λ (l : List ℕ × List ℕ). option_map (λ a. (a, l.1)) (behind first read (words_of l.0))) in
            ap (λ t. onward (line_of t)) (printed a rest)
            ∙ ap onward (line_of-complete line rest (glued_unbroken first (worded a) clean (all_clean a h)))
            ∙ ap (λ ws. option_map (λ a. (a, rest)) (behind first read ws)) (words_of-glued first (worded a) clean (all_clean a h))
            ∙ ap (option_map (λ a. (a, rest))) (behind-exact.complete a h)
