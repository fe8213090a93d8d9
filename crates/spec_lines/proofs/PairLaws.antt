-- Fields and rests that are printed are read back.
use Rattle.std.proofs.Common.{◌≡◌, ◌∙◌, ap, sym, refl, ℕ, ◌+◌, ◌^◌, ◌≤◌, ◌<◌, List, [], ◌∷◌, ◌++◌, length, map, take, drop, Bool, true, false, not, ◌==◌, cond, nat_eq, nat_lt, Some, None, Ok, bytes_eq, codes, decimal, option_map, arith, one-add, append_assoc, append-nil, length-append}
use Rattle.std.specs.Prelude.{position, unwrap_or, Result}
use Rattle.std.specs.Option.{option_and_then}
use Rattle.std.specs.List.{list_all, prefix_len}
use Rattle.std.proofs.Math.Seq.{take-append_seam, drop-append-add}
use Rattle.std.proofs.lemmas.Bool.{and_parts}
use Rattle.std.proofs.lemmas.Bool.Decides.{nat_tests}
use Rattle.spec_command.specs.Setting.{is_equals, setting_in}
use Rattle.spec_command.specs.Number.{number_below}
use Rattle.spec_lines.specs.Hex.{hex}
use Rattle.spec_lines.specs.Given.{Given, pair_in, with_pair, with_rest, given_behind, and_then, nothing}
use Rattle.spec_lines.specs.LineFault.{Many, refused}
use Rattle.spec_lines.proofs.TokenLaws.{placed}
use Rattle.spec_lines.proofs.NumberLaws.{decimal_said, hex_said}

-- ---- a pair

abbrev pub has_no_equals : List ℕ → Bool
has_no_equals name = list_all (λ byte. not (is_equals byte)) name

behind_name : (name text : List ℕ) → has_no_equals name ≡ true → prefix_len (λ byte. not (is_equals byte)) (name ++ 61 ∷ text) ≡ length name
behind_name [] text h = refl
behind_name (byte ∷ name) text h =
    let parts = and_parts (not (is_equals byte)) (has_no_equals name) h in
    ap (λ v. cond v (1 + prefix_len (λ byte. not (is_equals byte)) (name ++ 61 ∷ text)) 0) parts.0
    ∙ ap (λ k. 1 + k) (behind_name name text parts.1) ∙ one-add (length name)

-- a name without `=` is split from what stands behind its `=`
pub parts_said : (name text : List ℕ) → has_no_equals name ≡ true → setting_in (name ++ 61 ∷ text) ≡ Some (name, text)
parts_said name text h =
    let at = behind_name name text h in
    let within : nat_lt (length name) (length (name ++ 61 ∷ text)) ≡ true = let size = length-append name (61 ∷ text) in let lt : length name < length (name ++ 61 ∷ text) = omega (arith, size) in grind (arith, nat_tests) in
    let place : position is_equals (name ++ 61 ∷ text) ≡ Some (length name) =
    ap (λ k. cond (nat_lt k (length (name ++ 61 ∷ text))) (Some k) None) at ∙ ap (λ v. cond v (Some (length name)) None) within in
    let front : take (length name) (name ++ 61 ∷ text) ≡ name = take-append_seam name (61 ∷ text) in
    let back : drop (length name + 1) (name ++ 61 ∷ text) ≡ text = drop-append-add name (61 ∷ text) 1 in
    ap (option_map (λ place. (take place (name ++ 61 ∷ text), drop (place + 1) (name ++ 61 ∷ text)))) place
    ∙ ap (λ xs. Some (xs, drop (length name + 1) (name ++ 61 ∷ text))) front ∙ ap (λ xs. Some (name, xs)) back

-- a name, and the number of a text
pub pair_said : (name text : List ℕ) (n : ℕ) → 0 < length name → has_no_equals name ≡ true → number_below (2 ^ 32) text ≡ Some n → pair_in (name ++ 61 ∷ text) ≡ Some (name, n)
pair_said name text n some plain number =
    let filled : (length name == 0) ≡ false = grind (arith, nat_tests) in
    ap (option_and_then (λ setting. cond (length setting.0 == 0) None (option_map (λ n. (setting.0, n)) (number_below (2 ^ 32) setting.1)))) (parts_said name text plain)
    ∙ ap (λ v. cond v None (option_map (λ n. (name, n)) (number_below (2 ^ 32) text))) filled
    ∙ ap (option_map (λ n. (name, n))) number

-- ---- what is given

-- a field and its number as a token
abbrev pub pair_token : List ℕ × ℕ → List ℕ
pair_token pair = pair.0 ++ (61 ∷ decimal pair.1)

-- a pair can be read back: it has a name of a field, and a number of a word
pub record IsPlain (pair : List ℕ × ℕ) : Type 0 where
  pub some : 0 < length pair.0
  pub plain : has_no_equals pair.0 ≡ true
  pub field : bytes_eq pair.0 (codes "rest") ≡ false
  pub small : pair.1 < 2 ^ 32

pub data ArePlain : List (List ℕ × ℕ) → Type 0 where
  no_pairs : ArePlain []
  one_pair : {pair : List ℕ × ℕ} {pairs : List (List ℕ × ℕ)} → IsPlain pair → ArePlain pairs → ArePlain (pair ∷ pairs)

one_more : (at : ℕ) (given : Given) (pair : List ℕ × ℕ) → IsPlain pair → length given.pairs < 256 → with_pair at given (pair_in (pair_token pair)) ≡ Ok (record given { pairs = given.pairs ++ pair ∷ [] })
one_more at given pair h room =
    let fits : nat_lt (length given.pairs) 256 ≡ true = grind (arith, nat_tests) in
    ap (with_pair at given) (pair_said pair.0 (decimal pair.1) pair.1 h.some h.plain (decimal_said pair.1 h.small))
    ∙ ap (λ v. cond v (with_rest at given pair.1 given.rest) (cond (nat_lt (length given.pairs) 256) (Ok (record given { pairs = given.pairs ++ pair ∷ [] })) (refused at Many))) h.field
    ∙ ap (λ v. cond v (Ok (record given { pairs = given.pairs ++ pair ∷ [] })) (refused at Many)) fits

-- the tokens of pairs before others
pub pairs_given : (at : ℕ) (given : Given) (pairs : List (List ℕ × ℕ)) (more : List (List ℕ)) → ArePlain pairs → length given.pairs + length pairs ≤ 256
    → (n : ℕ) × (given_behind given (placed at (map pair_token pairs ++ more)) ≡ given_behind (record given { pairs = given.pairs ++ pairs }) (placed n more))
pairs_given at given [] more no_pairs room = (at, ap (λ ps. given_behind (record given { pairs = ps }) (placed at more)) (sym (append-nil given.pairs)))
pairs_given at given (pair ∷ pairs) more (one_pair h plain) room =
    let next : Given = record given { pairs = given.pairs ++ pair ∷ [] } in
    let size : length (given.pairs ++ pair ∷ []) + length pairs ≤ 256 = omega (arith, length-append given.pairs (pair ∷ [])) in
    let later = pairs_given (at + 1 + length (pair_token pair)) next pairs more plain size in (
      later.0,
      ap (λ (r : Result Given _). and_then r (λ g. given_behind g (placed (at + 1 + length (pair_token pair)) (map pair_token pairs ++ more)))) (one_more (at + 1) given pair h (omega arith))
          ∙ later.1 ∙ ap (λ ps. given_behind (record given { pairs = ps }) (placed later.0 more)) (append_assoc given.pairs (pair ∷ []) pairs),
    )

-- a rest as a token, where there is one
abbrev pub rest_tokens : ℕ → List (List ℕ)
rest_tokens rest = cond (nat_eq rest 0) [] ((codes "rest=0x" ++ hex 8 rest) ∷ [])

-- what is given then
abbrev pub with_rest_said : List (List ℕ × ℕ) → ℕ → Given
with_rest_said pairs rest = record { pairs = pairs; rest = cond (nat_eq rest 0) None (Some rest) }

pub rest_given : (at rest : ℕ) (pairs : List (List ℕ × ℕ)) → rest < 2 ^ 32 → given_behind (record { pairs = pairs; rest = None }) (placed at (rest_tokens rest)) ≡ Ok (with_rest_said pairs rest)
rest_given at rest pairs h = go (nat_eq rest 0)
  where
    go : (v : Bool) → given_behind (record { pairs = pairs; rest = None }) (placed at (cond v [] ((codes "rest=0x" ++ hex 8 rest) ∷ []))) ≡ Ok (record { pairs = pairs; rest = cond v None (Some rest) })
    go true = refl
    go false = ap (λ o. and_then (with_pair (at + 1) (record { pairs = pairs; rest = None }) o) (λ g. Ok g)) (pair_said (codes "rest") (codes "0x" ++ hex 8 rest) rest (omega arith) refl (hex_said 8 rest h))

pub rest_is : (rest : ℕ) → unwrap_or (cond (nat_eq rest 0) None (Some rest)) 0 ≡ rest
rest_is rest = go (nat_eq rest 0) refl
  where
    go : (v : Bool) → nat_eq rest 0 ≡ v → unwrap_or (cond v None (Some rest)) 0 ≡ rest
    go true e = let z : rest ≡ 0 = grind (arith, nat_tests) in sym z
    go false e = refl

-- all of it
pub all_given : (at rest : ℕ) (pairs : List (List ℕ × ℕ)) → ArePlain pairs → length pairs ≤ 256 → rest < 2 ^ 32 → given_behind nothing (placed at (map pair_token pairs ++ rest_tokens rest)) ≡ Ok (with_rest_said pairs rest)
all_given at rest pairs plain few h =
    let front = pairs_given at nothing pairs (rest_tokens rest) plain (omega arith) in
    front.1 ∙ rest_given front.0 rest pairs h
