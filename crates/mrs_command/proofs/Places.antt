-- The search for the first bad word, one word after another.
use Rattle.std.proofs.Common.{◌≡◌, ℕ, suc, ◌+◌, ◌-◌, ◌<◌, ◌≤◌, Bool, true, false, not, cond, List, [], ◌∷◌, length, get_or, take, map, Option, Some, None, is_some, refl, sym, ap, ◌∙◌, arith, String, Global, string_bytes}
use Rattle.std.specs.List.{find, list_all, count_by, range_with_len}
use Rattle.std.proofs.lemmas.List.{take-map, get_or-map, length-map, length-take}
use Rattle.std.proofs.lemmas.List.Folds.{list_all-map, list_all_more}
use Rattle.spec_command.specs.Setting.{setting_in}
use Rattle.std.proofs.lemmas.List.Sums.{count_by-le-length, sum_by-cons, sum_by_more}
use Rattle.spec_command.specs.Words.{is_good, is_bad_at, is_pin}
use Rattle.mrs_command.specs.Words.{is_setting}

-- the places that are left begin with the next one
left : (i n : ℕ) → i < n → range_with_len i (n - i) ≡ i ∷ range_with_len (i + 1) (n - (i + 1))
left i n h = let e : n - i ≡ suc (n - (i + 1)) = omega arith in rw e refl

pub found_here : (test : ℕ → Bool) (i n : ℕ) → i < n → test i ≡ true → find test (range_with_len i (n - i)) ≡ Some i
found_here test i n h passes = rw (left i n h, passes) refl

pub found_later : (test : ℕ → Bool) (i n : ℕ) → i < n → test i ≡ false → find test (range_with_len (i + 1) (n - (i + 1))) ≡ find test (range_with_len i (n - i))
found_later test i n h fails = rw (left i n h, fails) refl

-- the word at a place is bad just where it is not good behind the words before it
bad_at : (keys : List (List ℕ)) (words : List (String Global)) (i : ℕ) (word : String Global) → i < length words → word ≡ get_or words i word
    → is_bad_at keys (map string_bytes words) i ≡ not (is_good keys (map string_bytes (take i words)) (setting_in (string_bytes word)))
bad_at keys words i word h is = rw (take-map string_bytes i words, get_or-map string_bytes words i word [] h, ← is) refl

pub judged_here : (keys : List (List ℕ)) (words : List (String Global)) (i : ℕ) (word : String Global) (text : List ℕ) (good : Bool) → i < length words → word ≡ get_or words i word → text ≡ string_bytes word
    → good ≡ is_good keys (map string_bytes (take i words)) (setting_in text) → is_bad_at keys (map string_bytes words) i ≡ not good
judged_here keys words i word text good h is reads judged = bad_at keys words i word h is ∙ ap not (rw (← reads) (sym judged))

-- a good word is a setting
good_is_setting : (keys : List (List ℕ)) (earlier : List (List ℕ)) (setting : Option (List ℕ × List ℕ)) → is_good keys earlier setting ≡ true → is_some setting ≡ true
good_is_setting keys earlier None h = absurd cc
good_is_setting keys earlier (Some pair) h = refl

pub settings_more : (keys : List (List ℕ)) (words : List (String Global)) (i : ℕ) (word : String Global) (text : List ℕ) → i < length words → word ≡ get_or words i word → text ≡ string_bytes word
    → list_all is_setting (map string_bytes (take i words)) ≡ true → is_good keys (map string_bytes (take i words)) (setting_in text) ≡ true
    → list_all is_setting (map string_bytes (take (i + 1) words)) ≡ true
settings_more keys words i word text h is reads before good =
    let each : String Global → Bool = λ w. is_setting (string_bytes w) in
    list_all-map is_setting string_bytes (take (i + 1) words) ∙ list_all_more each words i word h
    ∙ rw (sym (list_all-map is_setting string_bytes (take i words)) ∙ before, ← is, ← reads) (good_is_setting keys (map string_bytes (take i words)) (setting_in text) good)

-- ---- pins

-- there are no more pins than words
pub pins_within : (words : List (String Global)) (i : ℕ) → count_by is_pin (map string_bytes (take i words)) ≤ i
pins_within words i = omega (arith, count_by-le-length is_pin (map string_bytes (take i words)), length-map (take i words) string_bytes, length-take {A = String Global})

counted_by_texts : (words : List (String Global)) → count_by is_pin (map string_bytes words) ≡ count_by (λ w. is_pin (string_bytes w)) words
counted_by_texts [] = refl
counted_by_texts (word ∷ words) =
    sum_by-cons (λ w. cond (is_pin w) 1 0) (string_bytes word) (map string_bytes words)
    ∙ ap (λ n. cond (is_pin (string_bytes word)) 1 0 + n) (counted_by_texts words)
    ∙ sym (sum_by-cons (λ w. cond (is_pin (string_bytes w)) 1 0) word words)

-- one more word is a pin or not
pub pins_more : (words : List (String Global)) (i : ℕ) (word : String Global) (text : List ℕ) (pin : Bool) → i < length words → word ≡ get_or words i word → text ≡ string_bytes word → pin ≡ is_pin text
    → count_by is_pin (map string_bytes (take (i + 1) words)) ≡ count_by is_pin (map string_bytes (take i words)) + cond pin 1 0
pins_more words i word text pin h is reads told =
    let here : is_pin (string_bytes (get_or words i word)) ≡ pin = ap (λ w. is_pin (string_bytes w)) (sym is) ∙ ap is_pin (sym reads) ∙ sym told in
    counted_by_texts (take (i + 1) words) ∙ sum_by_more (λ w. cond (is_pin (string_bytes w)) 1 0) words i word h ∙ ap (λ b. count_by (λ w. is_pin (string_bytes w)) (take i words) + cond b 1 0) here
    ∙ ap (λ n. n + cond pin 1 0) (sym (counted_by_texts (take i words)))
