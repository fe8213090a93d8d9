-- The tokens of a line: the longest runs of bytes other than space, each with the place of its first byte.
use Rattle.std.specs.Prelude.{ℕ, ◌+◌, ◌==◌, List, [], ◌∷◌, if◌then◌else◌}

pub record Token : Type 0 where
  pub at : ℕ
  pub text : List ℕ

-- a byte joins the token that begins right behind it, and else is a token of its own
abbrev pub joined_to : ℕ → ℕ → List Token → List Token
joined_to at byte [] = record { at = at; text = byte ∷ [] } ∷ []
joined_to at byte (token ∷ tokens) =
    if token.at == at + 1 then record { at = at; text = byte ∷ token.text } ∷ tokens
    else record { at = at; text = byte ∷ [] } ∷ token ∷ tokens

-- the tokens of bytes, the first of which stands at a place
abbrev pub tokens_from : ℕ → List ℕ → List Token
tokens_from at [] = []
tokens_from at (byte ∷ bytes) = if byte == 32 then tokens_from (at + 1) bytes else joined_to at byte (tokens_from (at + 1) bytes)

abbrev pub tokens : List ℕ → List Token
tokens line = tokens_from 0 line
