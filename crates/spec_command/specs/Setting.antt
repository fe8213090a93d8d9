-- Settings: words `key=value` of a command line.
use Rattle.std.specs.Prelude.{ℕ, ◌+◌, Bool, ◌==◌, List, [], ◌∷◌, take, drop, Option, Some, None, option_map, position, filter_map, if◌then◌else◌, bytes_eq}

-- the sign `=`
abbrev pub is_equals : ℕ → Bool
is_equals byte = byte == 61

-- a word is split at its first `=` into its key and its value; a word without a `=` is no setting
abbrev pub setting_in : List ℕ → Option (List ℕ × List ℕ)
setting_in word = option_map (λ place. (take place word, drop (place + 1) word)) (position is_equals word)

-- the settings among the words, in their order
abbrev pub settings_in : List (List ℕ) → List (List ℕ × List ℕ)
settings_in words = filter_map setting_in words

-- the value of the first setting with that key
abbrev pub value_in : List ℕ → List (List ℕ × List ℕ) → Option (List ℕ)
value_in key [] = None
value_in key (pair ∷ pairs) = if bytes_eq key pair.0 then Some pair.1 else value_in key pairs
