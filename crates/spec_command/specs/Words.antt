-- The command that the words of a command line say, or the place of the first bad word. Places count the words from 0. The rules are this project's own.
use Rattle.std.specs.Prelude.{◌≡◌, ℕ, ◌+◌, Bool, false, not, ◌&&◌, ◌==◌, nat_lt, List, [], ◌∷◌, length, take, slice_index_or, count_by, Option, Some, None, is_none, option_map, option_and_then, unwrap_or, bytes_eq, if◌then◌else◌, Result, Ok, Err}
use Rattle.std.specs.List.{find, range_with_len}
use Rattle.spec_command.specs.Number.{number_in}
use Rattle.spec_command.specs.Setting.{setting_in, settings_in, value_in}
use Rattle.spec_command.specs.Pins.{pin_keys}
use Rattle.spec_command.specs.Commands.{Request, Verb, verbs, pin_limit, is_one_of, takes}

-- a command: its verb, and its pairs of a key and a value, in the order of the words
pub record Command : Type 0 where
  pub verb : Verb
  pub pairs : List (List ℕ × List ℕ)

-- what a command asks for; there is nothing where a key that it needs is missing
abbrev pub asked : Command → Option Request
asked command = command.verb.asks.value command.pairs

-- the number of a key is what its first value is read as; there is none exactly where no pair has the key
abbrev pub IsNumber : List ℕ → List (List ℕ × List ℕ) → Option ℕ → Type 0
IsNumber key pairs None = value_in key pairs ≡ None
IsNumber key pairs (Some n) = option_and_then number_in (value_in key pairs) ≡ Some n

-- whether a word is a pin
abbrev pub is_pin : List ℕ → Bool
is_pin word = unwrap_or (option_map (λ pair. is_one_of pin_keys pair.0) (setting_in word)) false

-- there is room for a key behind earlier words if none of them has it; for that of a pin, if fewer of them are pins than may be
abbrev pub has_room : List (List ℕ) → List ℕ → Bool
has_room earlier key = if is_one_of pin_keys key then nat_lt (count_by is_pin earlier) pin_limit else is_none (value_in key (settings_in earlier))

-- a word is good behind earlier words if it is a setting whose key is one of the verb's, for whose key there is room, and whose value is not empty and one that the key takes
abbrev pub is_good : List (List ℕ) → List (List ℕ) → Option (List ℕ × List ℕ) → Bool
is_good keys earlier None = false
is_good keys earlier (Some pair) = takes pair.0 pair.1 && (not (length pair.1 == 0) && (is_one_of keys pair.0 && has_room earlier pair.0))

-- among the words behind a verb, the one at a place is bad if it is not good behind those before it
abbrev pub is_bad_at : List (List ℕ) → List (List ℕ) → ℕ → Bool
is_bad_at keys words place = not (is_good keys (take place words) (setting_in (slice_index_or words place [])))

-- the first of the places 0, 1 .. of those words at which one is bad
abbrev pub first_bad : List (List ℕ) → List (List ℕ) → Option ℕ
first_bad keys words = find (is_bad_at keys words) (range_with_len 0 (length words))

-- the words behind a verb begin at place 1: the first bad one is refused, and where none is bad, they are the pairs
abbrev pub settled : Verb → List (List ℕ) → Option ℕ → Result Command ℕ
settled verb words (Some place) = Err (place + 1)
settled verb words None = Ok (record { verb = verb; pairs = settings_in words })

-- the verb that a word says, if it says one
abbrev pub verb_named : List ℕ → Option Verb
verb_named word = find (λ verb. bytes_eq word verb.word) verbs

-- a first word that says no verb is refused at place 0
abbrev pub said : Option Verb → List (List ℕ) → Result Command ℕ
said None words = Err 0
said (Some verb) words = settled verb words (first_bad verb.asks.keys words)

-- the first word says the verb, and a missing one is refused at place 0; keys may be missing still
abbrev pub spoken : List (List ℕ) → Result Command ℕ
spoken [] = Err 0
spoken (word ∷ words) = said (verb_named word) words

-- a missing key is refused at the number of words
abbrev pub complete : {A : Type 0} → ℕ → Option A → Result A ℕ
complete count None = Err count
complete count (Some x) = Ok x

-- what is made of words none of which is bad
abbrev pub if_spoken : {A : Type 0} → (Command → Result A ℕ) → Result Command ℕ → Result A ℕ
if_spoken make (Err place) = Err place
if_spoken make (Ok command) = make command

-- the command, where it asks for something
abbrev pub command : List (List ℕ) → Result Command ℕ
command words = if_spoken (λ c. complete (length words) (option_map (λ _. c) (asked c))) (spoken words)
