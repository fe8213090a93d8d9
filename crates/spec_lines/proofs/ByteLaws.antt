-- What holds of each byte of names and of digits.
use Rattle.std.proofs.Common.{◌≡◌, ◌∙◌, ap, refl, ℕ, zero, suc, ◌-◌, ◌/◌, ◌%◌, List, [], ◌∷◌, ◌++◌, length, replicate, Bool, true, false, ◌&&◌, ◌==◌, cond, nat_lt, nat_le, decimal}
use Rattle.std.specs.List.{list_all}
use Rattle.std.specs.Fmt.{digits, digits_onto, digit_glyph}
use Rattle.std.proofs.lemmas.Bool.{and_parts}
use Rattle.std.proofs.lemmas.List.Folds.{list_all-append}
use Rattle.spec_instructions.specs.Name.{is_name, is_name_byte}
use Rattle.spec_instructions.specs.Paths.{labelled}
use Rattle.spec_lines.specs.Hex.{hex}

-- what follows byte for byte
all-weaker : (p q : ℕ → Bool) → ((b : ℕ) → p b ≡ true → q b ≡ true) → (xs : List ℕ) → list_all p xs ≡ true → list_all q xs ≡ true
all-weaker p q step [] h = refl
all-weaker p q step (x ∷ xs) h =
    let parts = and_parts (p x) (list_all p xs) h in
    ap (λ v. v && list_all q xs) (step x parts.0) ∙ all-weaker p q step xs parts.1

-- of a name
pub name_all : (p : ℕ → Bool) → ((b : ℕ) → is_name_byte b ≡ true → p b ≡ true) → (name : List ℕ) → is_name name ≡ true → list_all p name ≡ true
name_all p step name h = all-weaker is_name_byte p step name (and_parts (nat_le 1 (length name) && nat_le (length name) 128) (list_all is_name_byte name) h).1

-- a test that passes each digit
module _ (p : ℕ → Bool) (glyph : (d : ℕ) → p (digit_glyph false d) ≡ true) where
  onto_all : (k base n : ℕ) (acc : List ℕ) → list_all p acc ≡ true → list_all p (digits_onto k base false n acc) ≡ true
  onto_all zero base n acc h = h
  onto_all (suc k) base n acc h =
      let more : list_all p (digit_glyph false (n % base) ∷ acc) ≡ true = ap (λ v. v && list_all p acc) (glyph (n % base)) ∙ h in
      go (n / base == 0) more (onto_all k base (n / base) (digit_glyph false (n % base) ∷ acc) more)
    where
      go : (v : Bool) → list_all p (digit_glyph false (n % base) ∷ acc) ≡ true → list_all p (digits_onto k base false (n / base) (digit_glyph false (n % base) ∷ acc)) ≡ true
          → list_all p (cond v (digit_glyph false (n % base) ∷ acc) (digits_onto k base false (n / base) (digit_glyph false (n % base) ∷ acc))) ≡ true
      go true here later = here
      go false here later = later

  pub digits_all : (base n : ℕ) → list_all p (digits base false n) ≡ true
  unfolding digits
  digits_all base n = onto_all 64 base n [] refl

  pub both_all : (xs ys : List ℕ) → list_all p xs ≡ true → list_all p ys ≡ true → list_all p (xs ++ ys) ≡ true
  both_all xs ys h g = list_all-append p xs ys ∙ ap (λ v. v && list_all p ys) h ∙ g

  zeros_all : (k : ℕ) → list_all p (replicate k 48) ≡ true
  zeros_all zero = refl
  zeros_all (suc k) = ap (λ v. v && list_all p (replicate k 48)) (glyph 0) ∙ zeros_all k

  pub hex_all : (width n : ℕ) → list_all p (hex width n) ≡ true
  hex_all width n = both_all (replicate (width - length (digits 16 false n)) 48) (digits 16 false n) (zeros_all (width - length (digits 16 false n))) (digits_all 16 n)

  -- before a name and after it
  pub text_all : (name : List ℕ) (sign n : ℕ) → p sign ≡ true → list_all p name ≡ true → list_all p (name ++ (sign ∷ decimal n)) ≡ true
  text_all name sign n s h = both_all name (sign ∷ decimal n) h (ap (λ v. v && list_all p (decimal n)) s ∙ digits_all 10 n)

  pub labelled_all : (sakes : ℕ) (name : List ℕ) (k : ℕ) → p 35 ≡ true → list_all p name ≡ true → list_all p (labelled sakes name k) ≡ true
  labelled_all sakes name k s h = go (nat_lt 1 sakes)
    where
      go : (v : Bool) → list_all p (cond v (name ++ 35 ∷ decimal k) name) ≡ true
      go true = text_all name 35 k s h
      go false = h
