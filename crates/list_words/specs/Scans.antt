-- Runs of blanks and of other bytes at the front of a text, and the tokens of the code as those of the definition.
use Rattle.std.specs.Prelude.{ℕ, ◌+◌, ◌==◌, List, [], ◌∷◌, if◌then◌else◌}
use Rattle.spec_lines.specs.Token as spec
use Rattle.list_words.specs.declared.token.Token.{Token}

-- how many spaces stand in front
abbrev pub blanks : List ℕ → ℕ
blanks [] = 0
blanks (byte ∷ bytes) = if byte == 32 then blanks bytes + 1 else 0

-- how many other bytes stand in front
abbrev pub run : List ℕ → ℕ
run [] = 0
run (byte ∷ bytes) = if byte == 32 then 0 else run bytes + 1

abbrev pub token_of : Token → spec.Token
token_of token = record { at = token.at; text = token.text.now }
