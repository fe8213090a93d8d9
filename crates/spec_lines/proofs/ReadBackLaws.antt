-- Bare lines are read back to their words.
use Rattle.std.proofs.Common.{◌≡◌, ◌∙◌, ap, sym, refl, ℕ, suc, ◌+◌, ◌-◌, ◌*◌, ◌/◌, ◌%◌, ◌^◌, ◌≤◌, ◌<◌, List, [], ◌∷◌, ◌++◌, length, map, replicate, Bool, true, false, not, ◌&&◌, ◌||◌, ◌==◌, cond, nat_eq, nat_lt, nat_le, Option, Some, Ok, bytes_eq, codes, decimal, option_map, All, arith, append_assoc, append-nil, length-append}
use Rattle.std.specs.Prelude.{flat_map, slice_index_or}
use Rattle.std.specs.List.{list_all}
use Rattle.std.specs.Fmt.{digits, digit_glyph}
use Rattle.std.proofs.Math.Nat.{div-le_self, mod-le}
use Rattle.std.proofs.lemmas.Bool.{and_parts}
use Rattle.std.proofs.lemmas.Bool.Decides.{nat_tests}
use Rattle.std.proofs.lemmas.List.{length-map, length-replicate}
use Rattle.std.proofs.lemmas.List.Folds.{list_all-append}
use Rattle.std.proofs.lemmas.List.Elements.{All-head, All-tail}
use Rattle.std.proofs.lemmas.Slice.Eq.{bytes_eq-Decides}
use Rattle.spec_bits.specs.Bits.{bit_of, slice}
use Rattle.spec_instructions.specs.Name.{is_name, is_name_byte}
use Rattle.spec_instructions.specs.Tree.{Own}
use Rattle.spec_instructions.specs.Fields.{Field}
use Rattle.spec_instructions.specs.Paths.{path_name, namesakes, labelled, label, labelled_path}
use Rattle.spec_instructions.specs.Aliases.{alias_path, alias_paths}
use Rattle.spec_instructions.proofs.LabelLaws.{labels_tell_leaves}
use Rattle.spec_decode.specs.Found.{Candidate, found}
use Rattle.spec_decode.specs.Machine.{Machine}
use Rattle.spec_encoding.specs.Layout.{flipped}
use Rattle.spec_encoding.specs.PathLayout.{shown, layout, rest_of}
use Rattle.spec_encoding.specs.Encoding.{own_pairs, encoding}
use Rattle.spec_encoding.proofs.EncodingLaws.{encoding_is_exact, own_pairs_encode}
use Rattle.spec_encoding.proofs.BitLaws.{number_of_bits-lt}
use Rattle.spec_command.specs.Setting.{is_equals}
use Rattle.spec_lines.specs.Hex.{hex}
use Rattle.spec_lines.specs.Pairs.{pair_text, rest_text, pairs_text}
use Rattle.spec_lines.specs.Way.{Way, ByLeaf, ByAlias, way_path, way_of}
use Rattle.spec_lines.specs.BareLine.{bare_way, bare_leaves, word_text}
use Rattle.spec_lines.specs.Token.{Token, tokens}
use Rattle.spec_lines.specs.Parsed.{parsed, of_tokens, number_alone, of_label, of_given, encoded_at}
use Rattle.spec_lines.specs.ReadBack.{IsNamed, IsReadablePath, IsReadable, BareLinesAreRead}
use Rattle.spec_lines.proofs.ByteLaws.{name_all, hex_all, text_all}
use Rattle.spec_lines.proofs.NumberLaws.{digits_few, hex_said}
use Rattle.spec_lines.proofs.TokenLaws.{is_solid, is_run, spaced, placed, front-tokens}
use Rattle.spec_lines.proofs.PairLaws.{has_no_equals, pair_token, IsPlain, ArePlain, no_pairs, one_pair, rest_tokens, all_given, rest_is}
use Rattle.spec_lines.proofs.EncodedLaws.{IsTold, lone_told, way_formed}

-- ---- bytes of names and numbers

name_solid : (b : ℕ) → is_name_byte b ≡ true → is_solid b ≡ true
name_solid b h =
    let at_least = (and_parts (nat_le 33 b) (nat_le b 126) (and_parts (nat_le 33 b && nat_le b 126) _ h).0).0 in
    let other : (b == 32) ≡ false = grind (arith, nat_tests) in
    ap not other

name_plain : (b : ℕ) → is_name_byte b ≡ true → not (is_equals b) ≡ true
name_plain b h = go (b == 35) (b == 61) (b == 44) (and_parts (nat_le 33 b && nat_le b 126) (not (b == 35 || b == 61 || b == 44)) h).1
  where
    go : (x y z : Bool) → not (x || y || z) ≡ true → not y ≡ true
    go x false z h = refl
    go true true z h = absurd cc
    go false true z h = absurd cc

glyph_solid : (d : ℕ) → is_solid (digit_glyph false d) ≡ true
glyph_solid d = go (nat_lt d 10)
  where
    go : (v : Bool) → is_solid (cond v (48 + d) (87 + d)) ≡ true
    go true = let other : (48 + d == 32) ≡ false = grind (arith, nat_tests) in ap not other
    go false = let other : (87 + d == 32) ≡ false = grind (arith, nat_tests) in ap not other

hex_solid : (width n : ℕ) → list_all is_solid (hex width n) ≡ true
hex_solid width n = hex_all is_solid glyph_solid width n

hex_few : (n : ℕ) → length (hex 8 n) ≤ 72
hex_few n = omega (arith, length-append (replicate (8 - length (digits 16 false n)) 48) (digits 16 false n), length-replicate {A = ℕ} (8 - length (digits 16 false n)) 48, digits_few 16 n)

-- ---- names

pub record IsPrinted (text : List ℕ) : Type 0 where
  pub solid : list_all is_solid text ≡ true
  pub some : 0 < length text
  pub few : length text ≤ 193

run_of : (text : List ℕ) → IsPrinted text → is_run text ≡ true
run_of [] h = absurd (omega (arith, h.some))
run_of (byte ∷ bytes) h = h.solid

record IsNameText (name : List ℕ) : Type 0 where
  solid : list_all is_solid name ≡ true
  plain : has_no_equals name ≡ true
  some : 0 < length name
  few : length name ≤ 128

name_text : (name : List ℕ) → is_name name ≡ true → IsNameText name
name_text name h =
    let parts = and_parts (nat_le 1 (length name) && nat_le (length name) 128) (list_all is_name_byte name) h in
    let sizes = and_parts (nat_le 1 (length name)) (nat_le (length name) 128) parts.0 in
    record {
      solid = name_all is_solid name_solid name h;
      plain = name_all (λ b. not (is_equals b)) name_plain name h;
      some = grind (arith, nat_tests);
      few = grind (arith, nat_tests);
    }

labelled_printed : (sakes : ℕ) (name : List ℕ) (k : ℕ) → IsNameText name → IsPrinted (labelled sakes name k)
labelled_printed sakes name k h = go (nat_lt 1 sakes)
  where
    go : (v : Bool) → IsPrinted (cond v (name ++ 35 ∷ decimal k) name)
    go true = record {
      solid = text_all is_solid glyph_solid name 35 k refl h.solid;
      some = omega (arith, length-append name (35 ∷ decimal k), h.some);
      few = omega (arith, length-append name (35 ∷ decimal k), h.few, digits_few 10 k);
    }
    go false = record { solid = h.solid; some = h.some; few = omega (arith, h.few) }

-- ---- numbers of words

slice_small : (w start width : ℕ) → w < 2 ^ 32 → slice w start width < 2 ^ 32
slice_small w start width h = omega (arith, mod-le (w / 2 ^ start) (2 ^ width), div-le_self w (2 ^ start))

rest_small : (path : List Own) (w : ℕ) → rest_of path w < 2 ^ 32
rest_small path w = number_of_bits-lt (flipped (layout path) w) 32 (λ i lt. bit i ((layout path).free i))
  where
    bit : (i : ℕ) (v : Bool) → cond v ((bit_of w i + (layout path).default i) % 2) 0 < 2
    bit i true = omega arith
    bit i false = omega arith

-- ---- the pairs of a word

field_plain : (f : Field) (w : ℕ) → w < 2 ^ 32 → IsNamed f → IsPlain (f.name, slice w f.start f.width)
field_plain f w h named =
    let text = name_text f.name named.name in
    record { some = text.some; plain = text.plain; field = no_rest (bytes_eq f.name (codes "rest")) refl; small = slice_small w f.start f.width h }
  where
    no_rest : (v : Bool) → bytes_eq f.name (codes "rest") ≡ v → bytes_eq f.name (codes "rest") ≡ false
    no_rest true e = absurd (named.other ((bytes_eq-Decides f.name (codes "rest")).0 e))
    no_rest false e = e

all_plain : (w : ℕ) → w < 2 ^ 32 → (fields : List Field) → All IsNamed fields → ArePlain (map (λ f. (f.name, slice w f.start f.width)) fields)
all_plain w h [] named = no_pairs
all_plain w h (f ∷ fields) named = one_pair (field_plain f w h (All-head IsNamed f fields named)) (all_plain w h fields (All-tail IsNamed f fields named))

-- their tokens
token_run : (name : List ℕ) (n : ℕ) → IsNameText name → is_run (name ++ (61 ∷ decimal n)) ≡ true
token_run [] n h = absurd (omega (arith, h.some))
token_run (byte ∷ name) n h = text_all is_solid glyph_solid (byte ∷ name) 61 n refl h.solid

tokens_run : (w : ℕ) (fields : List Field) → All IsNamed fields → list_all is_run (map pair_token (map (λ f. (f.name, slice w f.start f.width)) fields)) ≡ true
tokens_run w [] named = refl
tokens_run w (f ∷ fields) named =
    let here = token_run f.name (slice w f.start f.width) (name_text f.name (All-head IsNamed f fields named).name) in
    ap (λ v. v && list_all is_run (map pair_token (map (λ f. (f.name, slice w f.start f.width)) fields))) here ∙ tokens_run w fields (All-tail IsNamed f fields named)

rest_run : (rest : ℕ) → list_all is_run (rest_tokens rest) ≡ true
rest_run rest = go (nat_eq rest 0)
  where
    go : (v : Bool) → list_all is_run (cond v [] ((codes "rest=0x" ++ hex 8 rest) ∷ [])) ≡ true
    go true = refl
    go false = ap (λ v. v && true) (hex_solid 8 rest)

-- their lengths
pair_few : (name : List ℕ) (n : ℕ) → IsNameText name → length (name ++ (61 ∷ decimal n)) ≤ 193
pair_few name n h = omega (arith, length-append name (61 ∷ decimal n), h.few, digits_few 10 n)

tokens_few : (w : ℕ) (fields : List Field) → All IsNamed fields → length (spaced (map pair_token (map (λ f. (f.name, slice w f.start f.width)) fields))) ≤ 194 * length fields
tokens_few w [] named = omega arith
tokens_few w (f ∷ fields) named =
    let here = pair_few f.name (slice w f.start f.width) (name_text f.name (All-head IsNamed f fields named).name) in
    let later = tokens_few w fields (All-tail IsNamed f fields named) in
    omega (arith, here, later, length-append (f.name ++ (61 ∷ decimal (slice w f.start f.width))) (spaced (map pair_token (map (λ f. (f.name, slice w f.start f.width)) fields))))

rest_few : (rest : ℕ) → length (spaced (rest_tokens rest)) ≤ 80
rest_few rest = go (nat_eq rest 0)
  where
    go : (v : Bool) → length (spaced (cond v [] ((codes "rest=0x" ++ hex 8 rest) ∷ []))) ≤ 80
    go true = omega arith
    go false = omega (arith, length-append (hex 8 rest) [], hex_few rest)

-- ---- lines

short : (machine : Machine) (text : List ℕ) → length text ≤ 65536 → parsed machine text ≡ of_tokens machine (length text) (tokens text)
short machine text h = let fits : nat_lt 65536 (length text) ≡ false = grind (arith, nat_tests) in rw fits

-- the line of a word as a number
word_read : (machine : Machine) (w : ℕ) → w < 2 ^ 32 → parsed machine (word_text w) ≡ Ok w
word_read machine w h =
    let text : List ℕ = codes "0x" ++ hex 8 w in
    let form : word_text w ≡ codes "word" ++ spaced (text ∷ []) = ap (λ xs. codes "word 0x" ++ xs) (sym (append-nil (hex 8 w))) in
    let run : list_all is_run (text ∷ []) ≡ true = ap (λ v. v && true) (hex_solid 8 w) in
    short machine (word_text w) (omega (arith, hex_few w))
    ∙ ap (of_tokens machine (length (word_text w))) (ap tokens form ∙ front-tokens 119 (codes "ord") (text ∷ []) refl run)
    ∙ ap (number_alone 5 []) (hex_said 8 w h)

spaced-append : (xs ys : List (List ℕ)) → spaced (xs ++ ys) ≡ spaced xs ++ spaced ys
spaced-append [] ys = refl
spaced-append (x ∷ xs) ys = ap (λ zs. (32 ∷ x) ++ zs) (spaced-append xs ys) ∙ sym (append_assoc (32 ∷ x) (spaced xs) (spaced ys))

pairs_spaced : (ps : List (List ℕ × ℕ)) → flat_map pair_text ps ≡ spaced (map pair_token ps)
pairs_spaced [] = refl
pairs_spaced (p ∷ ps) = ap (λ zs. pair_text p ++ zs) (pairs_spaced ps)

rest_spaced : (rest : ℕ) → rest_text rest ≡ spaced (rest_tokens rest)
rest_spaced rest = go (nat_eq rest 0)
  where
    go : (v : Bool) → cond v [] (codes " rest=0x" ++ hex 8 rest) ≡ spaced (cond v [] ((codes "rest=0x" ++ hex 8 rest) ∷ []))
    go true = refl
    go false = ap (λ xs. codes " rest=0x" ++ xs) (sym (append-nil (hex 8 rest)))

-- the tokens of fields and a rest
abbrev field_tokens : List Own → ℕ → List (List ℕ)
field_tokens path w = map pair_token (own_pairs path w) ++ rest_tokens (rest_of path w)

fields_spaced : (path : List Own) (w : ℕ) → pairs_text path w ≡ spaced (field_tokens path w)
fields_spaced path w =
    ap (λ xs. xs ++ rest_text (rest_of path w)) (pairs_spaced (own_pairs path w)) ∙ ap (λ xs. spaced (map pair_token (own_pairs path w)) ++ xs) (rest_spaced (rest_of path w))
    ∙ sym (spaced-append (map pair_token (own_pairs path w)) (rest_tokens (rest_of path w)))

-- what a line tells along one of these paths, of leaves or of aliases
module _ (machine : Machine) (w : ℕ) (small : w < 2 ^ 32) (paths : List (List Own)) (k : ℕ) (readable : IsReadablePath (slice_index_or paths k [])) where
  abbrev path : List Own
  path = slice_index_or paths k []

  abbrev name : List ℕ
  name = label paths k

  printed : IsPrinted name
  printed = labelled_printed (namesakes (path_name path) paths) (path_name path) k (name_text (path_name path) readable.label)

  runs : list_all is_run (name ∷ field_tokens path w) ≡ true
  runs =
      ap (λ v. v && list_all is_run (field_tokens path w)) (run_of name printed)
      ∙ list_all-append is_run (map pair_token (own_pairs path w)) (rest_tokens (rest_of path w))
      ∙ ap (λ v. v && list_all is_run (rest_tokens (rest_of path w))) (tokens_run w (shown path) readable.fields) ∙ rest_run (rest_of path w)

  few_pairs : length (own_pairs path w) ≤ 256
  few_pairs = omega (arith, length-map {B = List ℕ × ℕ} (shown path) (λ (f : Field). (f.name, slice w f.start f.width)), readable.few)

  -- behind a head of one token
  module _ (byte : ℕ) (bytes : List ℕ) where
    abbrev text : List ℕ
    text = (byte ∷ bytes) ++ (32 ∷ (name ++ pairs_text path w))

    text_few : length bytes ≤ 8 → length text ≤ 65536
    text_few short_head =
        let size : length (pairs_text path w) ≡ length (spaced (map pair_token (own_pairs path w)) ++ spaced (rest_tokens (rest_of path w))) = ap length (fields_spaced path w ∙ spaced-append (map pair_token (own_pairs path w)) (rest_tokens (rest_of path w))) in
        let both = length-append (spaced (map pair_token (own_pairs path w))) (spaced (rest_tokens (rest_of path w))) in
        let pairs = tokens_few w (shown path) readable.fields in
        let line = length-append (byte ∷ bytes) (32 ∷ (name ++ pairs_text path w)) in
        omega (arith, short_head, line, size, both, pairs, rest_few (rest_of path w), length-append name (pairs_text path w), printed.few, readable.few)

    -- the tokens behind the label
    abbrev behind : List Token
    behind = placed (0 + suc (length bytes) + 1 + length name) (field_tokens path w)

    line_tokens : is_run (byte ∷ bytes) ≡ true → tokens text ≡ record { at = 0; text = byte ∷ bytes } ∷ record { at = 0 + suc (length bytes) + 1; text = name } ∷ behind
    line_tokens run = ap (λ xs. tokens ((byte ∷ bytes) ++ (32 ∷ (name ++ xs)))) (fields_spaced path w) ∙ front-tokens byte bytes (name ∷ field_tokens path w) run runs

    line_says : is_run (byte ∷ bytes) ≡ true → length bytes ≤ 8 → parsed machine text ≡ of_tokens machine (length text) (record { at = 0; text = byte ∷ bytes } ∷ record { at = 0 + suc (length bytes) + 1; text = name } ∷ behind)
    line_says run short_head = short machine text (text_few short_head) ∙ ap (of_tokens machine (length text)) (line_tokens run)

    -- where the label finds the path again
    label_read : (at : ℕ) (by : ℕ → Way) → way_path machine (by k) ≡ path → labelled_path paths name ≡ Some k → encoding path machine.configuration (own_pairs path w) (rest_of path w) ≡ Ok w
        → of_label machine at behind (option_map by (labelled_path paths name)) ≡ Ok w
    label_read at by same told encoded =
        ap (λ (o : Option ℕ). of_label machine at behind (option_map by o)) told
        ∙ ap (of_given machine at (by k)) (all_given (0 + suc (length bytes) + 1 + length name) (rest_of path w) (own_pairs path w) (all_plain w small (shown path) readable.fields) few_pairs (rest_small path w))
        ∙ ap (λ r. encoded_at at (by k) (encoding (way_path machine (by k)) machine.configuration (own_pairs path w) r)) (rest_is (rest_of path w))
        ∙ ap (λ (p : List Own). encoded_at at (by k) (encoding p machine.configuration (own_pairs path w) (rest_of path w))) same
        ∙ ap (encoded_at at (by k)) encoded

-- the labels of readable paths tell them apart
found_again : (paths : List (List Own)) (k : ℕ) → length paths ≤ 65536 → All IsReadablePath paths → k < length paths → labelled_path paths (label paths k) ≡ Some k
found_again paths k few readable within = (labels_tell_leaves paths few (λ j d lt. (readable j d lt).label)).found k within

few_aliases : (machine : Machine) → IsReadable machine → length (alias_paths machine.aliases) ≤ 65536
few_aliases machine h = omega (arith, h.few_aliases, length-map {B = List Own} machine.aliases alias_path)

-- a line by a leaf or an alias
way_read : (machine : Machine) (w : ℕ) → w < 2 ^ 32 → IsReadable machine → (way : Way) → IsTold machine w way → parsed machine (bare_way machine w way) ≡ Ok w
way_read machine w small h (ByLeaf k) told =
    let readable = h.paths k [] told.within in
    let path : List Own = slice_index_or machine.paths k [] in
    let formed = way_formed machine w (ByLeaf k) h.formed told in
    let encoded = (encoding_is_exact path machine.configuration (own_pairs path w) (rest_of path w) w formed (rest_small path w)).1 (own_pairs_encode path machine.configuration w formed small told.verdict_is) in
    line_says machine w small machine.paths k readable 108 (codes "eaf") refl (omega arith)
    ∙ label_read machine w small machine.paths k readable 108 (codes "eaf") 5 ByLeaf refl (found_again machine.paths k h.few h.paths told.within) encoded
way_read machine w small h (ByAlias a) told =
    let paths : List (List Own) = alias_paths machine.aliases in
    let readable = h.aliases a [] told.within in
    let path : List Own = slice_index_or paths a [] in
    let formed = way_formed machine w (ByAlias a) h.formed told in
    let encoded = (encoding_is_exact path machine.configuration (own_pairs path w) (rest_of path w) w formed (rest_small path w)).1 (own_pairs_encode path machine.configuration w formed small told.verdict_is) in
    line_says machine w small paths a readable 97 (codes "lias") refl (omega arith)
    ∙ label_read machine w small paths a readable 97 (codes "lias") 6 ByAlias refl (found_again paths a (few_aliases machine h) h.aliases told.within) encoded

pub bare_lines_are_read : BareLinesAreRead
bare_lines_are_read machine w small h = go (found machine.paths machine.configuration w) refl
  where
    go : (cs : List Candidate) → found machine.paths machine.configuration w ≡ cs → parsed machine (bare_leaves machine w cs) ≡ Ok w
    go [] is = word_read machine w small
    go (c ∷ []) is = way_read machine w small h (way_of machine c.leaf w) (lone_told machine w c h.formed.below is)
    go (c ∷ d ∷ cs) is = word_read machine w small
