-- A command is one verb with good words behind it; what it asks for is what its words ask for; and its numbers are read.
use Rattle.std.proofs.Common.{◌≡◌, ℕ, zero, suc, ◌+◌, ◌<◌, ◌≤◌, Bool, true, false, not, ◌||◌, cond, List, [], ◌∷◌, length, take, get_or, Option, Some, None, is_some, option_map, option_and_then, Result, Ok, Err, bytes_eq, codes, refl, sym, ap, ◌∙◌, subst, inl, inr, arith}
use Rattle.std.specs.Prelude.{nat_lt}
use Rattle.std.specs.List.{find, range_with_len, cons_option}
use Rattle.std.proofs.lemmas.Bool.{cases_lt, and_parts, false≢true}
use Rattle.std.proofs.lemmas.Slice.Eq.{bytes_eq-Decides}
use Rattle.spec_command.specs.Number.{number_in, if_below}
use Rattle.spec_command.specs.Setting.{setting_in, settings_in, value_in}
use Rattle.spec_command.specs.Commands.{Request, Verb, list_verb, asm_verb, leaf_verb, config_verb, proof_verb, check_verb, is_one_of, limit_by, number_keys, number_by, takes}
use Rattle.spec_command.specs.Words.{Command, asked, IsNumber, is_good, is_bad_at, first_bad, settled, verb_named, said, spoken, complete, if_spoken, command}
use Rattle.spec_command.specs.Request.{request}

-- ---- a verb, and good words behind it

-- words that are spoken are a word that says the verb, and words behind it that are all good
pub record IsSpoken (words : List (List ℕ)) (c : Command) : Type 0 where
  pub word : List ℕ
  pub named : verb_named word ≡ Some c.verb
  pub behind : List (List ℕ)
  pub good : first_bad c.verb.asks.keys behind ≡ None
  pub pairs : c.pairs ≡ settings_in behind

pub spoken_is : (words : List (List ℕ)) (c : Command) → spoken words ≡ Ok c → IsSpoken words c
spoken_is [] c h = absurd cc
spoken_is (word ∷ words) c h = by_name (verb_named word) refl h
  where
    by_place : (verb : Verb) (place : Option ℕ) → verb_named word ≡ Some verb → first_bad verb.asks.keys words ≡ place → settled verb words place ≡ Ok c → IsSpoken (word ∷ words) c
    by_place verb (Some place) named first h = absurd cc
    by_place verb None named first h =
        let same : record { verb = verb; pairs = settings_in words } ≡ c = cc in
        subst (IsSpoken (word ∷ words)) same (record { word = word; named = named; behind = words; good = first; pairs = refl })

    by_name : (named : Option Verb) → verb_named word ≡ named → said named words ≡ Ok c → IsSpoken (word ∷ words) c
    by_name None named h = absurd cc
    by_name (Some verb) named h = by_place verb (first_bad verb.asks.keys words) named refl h

-- what holds of each verb holds of the one that a word says
pub by_verb : (P : Verb → Type 0) → P list_verb → P asm_verb → P leaf_verb → P config_verb → P proof_verb → P check_verb → (word : List ℕ) (verb : Verb) → verb_named word ≡ Some verb → P verb
by_verb P of_list of_asm of_leaf of_config of_proof of_check word verb h = go (bytes_eq word list_verb.word) (bytes_eq word asm_verb.word) (bytes_eq word leaf_verb.word) (bytes_eq word config_verb.word) (bytes_eq word proof_verb.word) (bytes_eq word check_verb.word) h
  where
    same : (one : Verb) → P one → Some one ≡ Some verb → P verb
    same one p h = let e : one ≡ verb = cc in subst P e p

    go : (list asm leaf config proof check : Bool) → cond list (Some list_verb) (cond asm (Some asm_verb) (cond leaf (Some leaf_verb) (cond config (Some config_verb) (cond proof (Some proof_verb) (cond check (Some check_verb) None))))) ≡ Some verb → P verb
    go true asm leaf config proof check h = same list_verb of_list h
    go false true leaf config proof check h = same asm_verb of_asm h
    go false false true config proof check h = same leaf_verb of_leaf h
    go false false false true proof check h = same config_verb of_config h
    go false false false false true check h = same proof_verb of_proof h
    go false false false false false true h = same check_verb of_check h
    go false false false false false false h = absurd cc

-- ---- what a command asks for

-- a command is spoken, and asks for something
pub record IsCommand (words : List (List ℕ)) (c : Command) : Type 0 where
  pub said : spoken words ≡ Ok c
  pub asks : is_some (asked c) ≡ true

pub command_is : (words : List (List ℕ)) (c : Command) → command words ≡ Ok c → IsCommand words c
command_is words c h = by_words (spoken words) refl h
  where
    by_asked : (d : Command) (what : Option Request) → spoken words ≡ Ok d → asked d ≡ what → complete (length words) (option_map (λ _. d) what) ≡ Ok c → IsCommand words c
    by_asked d None says asks h = absurd cc
    by_asked d (Some r) says asks h = let same : d ≡ c = cc in subst (IsCommand words) same (record { said = says; asks = ap is_some asks })

    by_words : (r : Result Command ℕ) → spoken words ≡ r → if_spoken (λ d. complete (length words) (option_map (λ _. d) (asked d))) r ≡ Ok c → IsCommand words c
    by_words (Err place) says h = absurd cc
    by_words (Ok d) says h = by_asked d (asked d) says refl h

-- what the command of some words asks for is what the words ask for
pub command_asks : (words : List (List ℕ)) (c : Command) (r : Request) → command words ≡ Ok c → asked c ≡ Some r → request words ≡ Ok r
command_asks words c r h asks = ap (if_spoken (λ d. complete (length words) (asked d))) (command_is words c h).said ∙ ap (complete (length words)) asks

-- and where there is no command, nothing is asked for, by the same place
pub refused_alike : (words : List (List ℕ)) (place : ℕ) → command words ≡ Err place → request words ≡ Err place
refused_alike words place h = by_words (spoken words) h
  where
    by_asked : (d : Command) (what : Option Request) → complete (length words) (option_map (λ _. d) what) ≡ Err place → complete (length words) what ≡ Err place
    by_asked d None h = let same : length words ≡ place = cc in ap Err same
    by_asked d (Some r) h = absurd cc

    by_words : (r : Result Command ℕ) → if_spoken (λ d. complete (length words) (option_map (λ _. d) (asked d))) r ≡ Err place → if_spoken (λ d. complete (length words) (asked d)) r ≡ Err place
    by_words (Err at) h = let same : at ≡ place = cc in ap Err same
    by_words (Ok d) h = by_asked d (asked d) h

-- ---- the values of a command

-- a place that a search has passed fails its test
pub passed : (test : ℕ → Bool) (start count : ℕ) → find test (range_with_len start count) ≡ None → (k : ℕ) → start ≤ k → k < start + count → test k ≡ false
passed test start zero none k low high = absurd (omega arith)
passed test start (suc n) none k low high = go (test start) refl none (passed test (start + 1) n)
  where
    go : (b : Bool) → test start ≡ b → cond b (Some start) (find test (range_with_len (start + 1) n)) ≡ None
        → (find test (range_with_len (start + 1) n) ≡ None → (k : ℕ) → start + 1 ≤ k → k < (start + 1) + n → test k ≡ false) → test k ≡ false
    go true here h later = absurd cc
    go false here h later = elim (cases_lt start k) [ inl above ↦ later h k (omega arith) (omega arith) | inr up ↦ (let same : start ≡ k = omega arith in rw (← same) here) ]

not_not : (b : Bool) → not b ≡ false → b ≡ true
not_not true h = refl
not_not false h = absurd cc

-- where no word is bad, each is good behind those before it
pub good_at : (keys words : List (List ℕ)) → first_bad keys words ≡ None → (k : ℕ) → k < length words → is_good keys (take k words) (setting_in (get_or words k [])) ≡ true
good_at keys words first k h = not_not _ (passed (is_bad_at keys words) 0 (length words) first k (omega arith) (omega arith))

-- the key of a setting takes its value
abbrev takes_in : Option (List ℕ × List ℕ) → Bool
takes_in None = true
takes_in (Some pair) = takes pair.0 pair.1

good_takes : (keys earlier : List (List ℕ)) (setting : Option (List ℕ × List ℕ)) → is_good keys earlier setting ≡ true → takes_in setting ≡ true
good_takes keys earlier None good = refl
good_takes keys earlier (Some pair) good = (and_parts (takes pair.0 pair.1) _ good).0

-- so the value of each key is one that it takes
value_taken : (words : List (List ℕ)) → ((k : ℕ) → k < length words → takes_in (setting_in (get_or words k [])) ≡ true) → (key value : List ℕ) → value_in key (settings_in words) ≡ Some value → takes key value ≡ true
value_taken [] all key value h = absurd cc
value_taken (word ∷ words) all key value h = go (setting_in word) (all zero (omega arith)) h (value_taken words (λ k below. all (suc k) (omega arith)) key value)
  where
    here : (pair : List ℕ × List ℕ) (same : Bool) → bytes_eq key pair.0 ≡ same → takes pair.0 pair.1 ≡ true → cond same (Some pair.1) (value_in key (settings_in words)) ≡ Some value
        → (value_in key (settings_in words) ≡ Some value → takes key value ≡ true) → takes key value ≡ true
    here pair true same took h later =
        let is_key : pair.0 ≡ key = sym ((bytes_eq-Decides key pair.0).0 same) in
        let is_value : pair.1 ≡ value = cc in
        subst (λ k. takes k value ≡ true) is_key (subst (λ v. takes pair.0 v ≡ true) is_value took)
    here pair false same took h later = later h

    go : (setting : Option (List ℕ × List ℕ)) → takes_in setting ≡ true → value_in key (cons_option setting (settings_in words)) ≡ Some value
        → (value_in key (settings_in words) ≡ Some value → takes key value ≡ true) → takes key value ≡ true
    go None took h later = later h
    go (Some pair) took h later = here pair (bytes_eq key pair.0) refl took h later

pub value_is_taken : (words : List (List ℕ)) (c : Command) (key value : List ℕ) → spoken words ≡ Ok c → value_in key c.pairs ≡ Some value → takes key value ≡ true
value_is_taken words c key value h found =
    let is = spoken_is words c h in
    value_taken is.behind (λ k below. good_takes c.verb.asks.keys (take k is.behind) (setting_in (get_or is.behind k [])) (good_at c.verb.asks.keys is.behind is.good k below)) key value (ap (value_in key) (sym is.pairs) ∙ found)

-- ---- numbers

-- a key of numbers takes a value just where it is read as a number
number_taken : (key value : List ℕ) → is_one_of number_keys key ≡ true → takes key value ≡ true → is_some (number_by key value) ≡ true
number_taken key value numbered took = go (bytes_eq (codes "max") key) refl numbered
  where
    go : (max : Bool) → bytes_eq (codes "max") key ≡ max → (max || false) ≡ true → is_some (number_by key value) ≡ true
    go true max h =
        let is_key : key ≡ codes "max" = sym ((bytes_eq-Decides (codes "max") key).0 max) in
        subst (λ k. is_some (number_by k value) ≡ true) (sym is_key) (subst (λ k. takes k value ≡ true) is_key took)
    go false max h = absurd cc

-- so where a command has such a key, its value is read
pub number_there : (words : List (List ℕ)) (c : Command) (key value : List ℕ) → spoken words ≡ Ok c → is_one_of number_keys key ≡ true → value_in key c.pairs ≡ Some value → is_some (number_by key value) ≡ true
number_there words c key value h numbered found = number_taken key value numbered (value_is_taken words c key value h found)

-- what it is read as is the number that it says
within : (bound : ℕ) (read : Option ℕ) (n : ℕ) → option_and_then (if_below bound) read ≡ Some n → read ≡ Some n
within bound None n h = absurd cc
within bound (Some m) n h = go (nat_lt m bound) h
  where
    go : (b : Bool) → cond b (Some m) None ≡ Some n → Some m ≡ Some n
    go true h = h
    go false h = absurd cc

pub number_reads : (key value : List ℕ) (n : ℕ) → number_by key value ≡ Some n → number_in value ≡ Some n
number_reads key value n h = go (bytes_eq key (codes "max")) h
  where
    go : (max : Bool) → cond max (limit_by value) None ≡ Some n → number_in value ≡ Some n
    go true h = within 1099511627777 (number_in value) n h
    go false h = absurd cc

-- so what the value of such a key is read as is the number of the key
pub number_is : (words : List (List ℕ)) (c : Command) (key value : List ℕ) (read : Option ℕ) → spoken words ≡ Ok c → is_one_of number_keys key ≡ true → value_in key c.pairs ≡ Some value → read ≡ number_by key value → IsNumber key c.pairs read
number_is words c key value None h numbered found is = absurd (false≢true (ap is_some is ∙ number_there words c key value h numbered found))
number_is words c key value (Some n) h numbered found is = ap (option_and_then number_in) found ∙ number_reads key value n (sym is)
