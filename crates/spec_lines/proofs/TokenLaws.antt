-- Tokens of texts that stand behind single spaces.
use Rattle.std.proofs.Common.{◌≡◌, ◌∙◌, ap, sym, refl, ℕ, suc, ◌+◌, ◌≤◌, List, [], ◌∷◌, ◌++◌, length, Bool, true, false, not, ◌&&◌, ◌==◌, cond, arith}
use Rattle.std.specs.Prelude.{flat_map}
use Rattle.std.specs.List.{list_all}
use Rattle.std.proofs.lemmas.Bool.{and_parts}
use Rattle.std.proofs.lemmas.Bool.Decides.{nat_tests}
use Rattle.spec_lines.specs.Token.{Token, joined_to, tokens_from, tokens}

-- tokens begin at a place or behind it
abbrev pub AreFrom : ℕ → List Token → Type 0
AreFrom at [] = Unit {0}
AreFrom at (token ∷ tokens) = at ≤ token.at

weaker : (at : ℕ) (tokens : List Token) → AreFrom (at + 1) tokens → AreFrom at tokens
weaker at [] h = tt
weaker at (token ∷ tokens) h = omega arith

joined_from : (at byte : ℕ) (tokens : List Token) → AreFrom at (joined_to at byte tokens)
joined_from at byte [] = omega arith
joined_from at byte (token ∷ tokens) = go (token.at == at + 1)
  where
    go : (b : Bool) → AreFrom at (cond b (record { at = at; text = byte ∷ token.text } ∷ tokens) (record { at = at; text = byte ∷ [] } ∷ token ∷ tokens))
    go true = omega arith
    go false = omega arith

pub are_from : (at : ℕ) (bytes : List ℕ) → AreFrom at (tokens_from at bytes)
are_from at [] = tt
are_from at (byte ∷ bytes) = go (byte == 32) (are_from (at + 1) bytes)
  where
    go : (b : Bool) → AreFrom (at + 1) (tokens_from (at + 1) bytes) → AreFrom at (cond b (tokens_from (at + 1) bytes) (joined_to at byte (tokens_from (at + 1) bytes)))
    go true next = weaker at (tokens_from (at + 1) bytes) next
    go false next = joined_from at byte (tokens_from (at + 1) bytes)

-- a byte before tokens that begin further behind is one of its own
pub apart : (at byte : ℕ) (tokens : List Token) → AreFrom ((at + 1) + 1) tokens → joined_to at byte tokens ≡ record { at = at; text = byte ∷ [] } ∷ tokens
apart at byte [] h = refl
apart at byte (token ∷ tokens) h = let differ : (token.at == at + 1) ≡ false = grind (arith, nat_tests) in rw differ

-- and joins one that begins right behind it
pub joins : (at byte : ℕ) (text : List ℕ) (tokens : List Token) → joined_to at byte (record { at = at + 1; text = text } ∷ tokens) ≡ record { at = at; text = byte ∷ text } ∷ tokens
joins at byte text tokens = let same : (at + 1 == at + 1) ≡ true = grind (arith, nat_tests) in rw same

-- ---- texts behind spaces

-- bytes other than space, of which there is at least one
abbrev pub is_solid : ℕ → Bool
is_solid byte = not (byte == 32)

abbrev pub is_run : List ℕ → Bool
is_run [] = false
is_run (byte ∷ bytes) = is_solid byte && list_all is_solid bytes

-- texts, a space before each
abbrev pub spaced : List (List ℕ) → List ℕ
spaced texts = flat_map (λ text. 32 ∷ text) texts

-- their tokens, the first space standing at a place
abbrev pub placed : ℕ → List (List ℕ) → List Token
placed at [] = []
placed at (text ∷ texts) = record { at = at + 1; text = text } ∷ placed (at + 1 + length text) texts

spaced-apart : (at : ℕ) (texts : List (List ℕ)) → AreFrom ((at + 1) + 1) (tokens_from (at + 1) (spaced texts))
spaced-apart at [] = tt
spaced-apart at (text ∷ texts) = are_from ((at + 1) + 1) (text ++ spaced texts)

solid_no : (byte : ℕ) → is_solid byte ≡ true → (byte == 32) ≡ false
solid_no byte h = go (byte == 32) h
  where
    go : (b : Bool) → not b ≡ true → b ≡ false
    go true h = absurd cc
    go false h = refl

-- a run before texts behind spaces
pub run-spaced : (at byte : ℕ) (bytes : List ℕ) (texts : List (List ℕ)) → is_run (byte ∷ bytes) ≡ true → tokens_from at ((byte ∷ bytes) ++ spaced texts) ≡ record { at = at; text = byte ∷ bytes } ∷ tokens_from (at + suc (length bytes)) (spaced texts)
run-spaced at byte [] texts h =
    let solid = solid_no byte (and_parts (is_solid byte) true h).0 in
    ap (λ b. cond b (tokens_from (at + 1) (spaced texts)) (joined_to at byte (tokens_from (at + 1) (spaced texts)))) solid ∙ apart at byte (tokens_from (at + 1) (spaced texts)) (spaced-apart at texts)
run-spaced at byte (next ∷ bytes) texts h =
    let parts = and_parts (is_solid byte) (list_all is_solid (next ∷ bytes)) h in
    let z : at + suc (suc (length bytes)) ≡ (at + 1) + suc (length bytes) = omega arith in
    ap (λ b. cond b (tokens_from (at + 1) ((next ∷ bytes) ++ spaced texts)) (joined_to at byte (tokens_from (at + 1) ((next ∷ bytes) ++ spaced texts)))) (solid_no byte parts.0)
    ∙ ap (joined_to at byte) (run-spaced (at + 1) next bytes texts parts.1) ∙ joins at byte (next ∷ bytes) _
    ∙ ap (λ k. record { at = at; text = byte ∷ next ∷ bytes } ∷ tokens_from k (spaced texts)) (sym z)

pub spaced-tokens : (at : ℕ) (texts : List (List ℕ)) → list_all is_run texts ≡ true → tokens_from at (spaced texts) ≡ placed at texts
spaced-tokens at [] h = refl
spaced-tokens at ([] ∷ texts) h = absurd cc
spaced-tokens at ((byte ∷ bytes) ∷ texts) h =
    let parts = and_parts (is_run (byte ∷ bytes)) (list_all is_run texts) h in
    run-spaced (at + 1) byte bytes texts parts.0 ∙ ap (λ ts. record { at = at + 1; text = byte ∷ bytes } ∷ ts) (spaced-tokens (at + 1 + suc (length bytes)) texts parts.1)

-- the tokens of a text before others
pub front-tokens : (byte : ℕ) (bytes : List ℕ) (texts : List (List ℕ)) → is_run (byte ∷ bytes) ≡ true → list_all is_run texts ≡ true → tokens ((byte ∷ bytes) ++ spaced texts) ≡ record { at = 0; text = byte ∷ bytes } ∷ placed (0 + suc (length bytes)) texts
front-tokens byte bytes texts first rest = run-spaced 0 byte bytes texts first ∙ ap (λ ts. record { at = 0; text = byte ∷ bytes } ∷ ts) (spaced-tokens (0 + suc (length bytes)) texts rest)
