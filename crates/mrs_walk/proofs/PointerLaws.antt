-- Laws of the tokens of a JSON Pointer.
use Rattle.std.proofs.Common.{◌≡◌, ◌≢◌, ◌∙◌, sym, ap, refl, ℕ, ◌+◌, ◌/◌, ◌≤◌, Bool, true, false, cond, ltb, ◌==◌, List, [], ◌∷◌, ◌++◌, append_assoc, arith}
use Rattle.std.proofs.lemmas.Bool.{eqb-true}
use lib.Utf8.{encode, next}
use Rattle.spec_walk.specs.Pointer.{escaped_byte, escaped}

escaped-append : (xs ys : List ℕ) → escaped (xs ++ ys) ≡ escaped xs ++ escaped ys
escaped-append [] ys = refl
escaped-append (b ∷ bs) ys = ap (λ zs. escaped_byte b ++ zs) (escaped-append bs ys) ∙ sym (append_assoc (escaped_byte b) (escaped bs) (escaped ys))

escaped_byte-plain : (b : ℕ) → b ≢ 126 → b ≢ 47 → escaped_byte b ≡ b ∷ []
escaped_byte-plain b tilde slash = go (b == 126) (b == 47) refl refl
  where
    go : (t s : Bool) → (b == 126) ≡ t → (b == 47) ≡ s → cond t (126 ∷ 48 ∷ []) (cond s (126 ∷ 49 ∷ []) (b ∷ [])) ≡ b ∷ []
    go true s e f = absurd (tilde (eqb-true b 126 e))
    go false true e f = absurd (slash (eqb-true b 47 f))
    go false false e f = refl

-- a character that is neither `~` nor `/` stays as it is
escaped-high : (b : ℕ) (bs : List ℕ) → 128 ≤ b → escaped bs ≡ bs → escaped (b ∷ bs) ≡ b ∷ bs
escaped-high b bs high rest =
    let tilde : b ≢ 126 = omega arith in
    let slash : b ≢ 47 = omega arith in
    ap (λ front. front ++ escaped bs) (escaped_byte-plain b tilde slash) ∙ ap (λ zs. b ∷ zs) rest

escaped-encode : (c : ℕ) → c ≢ 126 → c ≢ 47 → escaped (encode c) ≡ encode c
unfolding encode
escaped-encode c tilde slash = go (ltb c 128) (ltb c 2048) (ltb c 65536)
  where
    go : (one two three : Bool) → escaped (cond one (c ∷ []) (cond two ((192 + c / 64) ∷ next c ∷ []) (cond three ((224 + c / 4096) ∷ next (c / 64) ∷ next c ∷ []) ((240 + c / 262144) ∷ next (c / 4096) ∷ next (c / 64) ∷ next c ∷ []))))
        ≡ cond one (c ∷ []) (cond two ((192 + c / 64) ∷ next c ∷ []) (cond three ((224 + c / 4096) ∷ next (c / 64) ∷ next c ∷ []) ((240 + c / 262144) ∷ next (c / 4096) ∷ next (c / 64) ∷ next c ∷ [])))
    go true two three = ap (λ front. front ++ []) (escaped_byte-plain c tilde slash)
    go false true three = escaped-high (192 + c / 64) (next c ∷ []) (omega arith) (escaped-high (next c) [] (omega arith) refl)
    go false false true = escaped-high (224 + c / 4096) (next (c / 64) ∷ next c ∷ []) (omega arith) (escaped-high (next (c / 64)) (next c ∷ []) (omega arith) (escaped-high (next c) [] (omega arith) refl))
    go false false false = escaped-high (240 + c / 262144) (next (c / 4096) ∷ next (c / 64) ∷ next c ∷ []) (omega arith) (escaped-high (next (c / 4096)) (next (c / 64) ∷ next c ∷ []) (omega arith) (escaped-high (next (c / 64)) (next c ∷ []) (omega arith) (escaped-high (next c) [] (omega arith) refl)))

-- one more character of a name that is written so far
pub escaped_more : (out out' rest whole : List ℕ) (c : ℕ) → c ≢ 126 → c ≢ 47 → out' ≡ out ++ encode c → out ++ escaped (encode c ++ rest) ≡ whole → out' ++ escaped rest ≡ whole
escaped_more out out' rest whole c tilde slash pushed so_far =
    ap (λ front. front ++ escaped rest) pushed
    ∙ append_assoc out (encode c) (escaped rest)
    ∙ ap (λ middle. out ++ (middle ++ escaped rest)) (sym (escaped-encode c tilde slash))
    ∙ ap (λ end. out ++ end) (sym (escaped-append (encode c) rest))
    ∙ so_far
