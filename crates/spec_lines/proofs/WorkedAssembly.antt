-- Worked values: lines of assembly over leaves of a small release, and the reasons why they are refused.
use Rattle.std.specs.Prelude.{◌≡◌, ℕ, List, [], ◌∷◌, ◌++◌, replicate, flat_map, None, Some, Result, Ok, Err, map, filter_map, true, false, codes, refl}
use Rattle.std.specs.Fmt.{digits}
use Rattle.std.specs.Result.{result_map_both}
use Rattle.spec_bits.specs.Pattern.{Digit}
use Rattle.spec_bits.specs.PatternText.{digit_of}
use Rattle.spec_bits.specs.Item.{Item}
use Rattle.spec_expressions.specs.Expression.{Name, Call, IsFeatureImplemented, exprs_of}
use Rattle.spec_expressions.specs.Scope.{Flag}
use Rattle.spec_instructions.specs.Kind.{Group, Leaf}
use Rattle.spec_instructions.specs.Tree.{Own, bare}
use Rattle.spec_decode.specs.Machine.{Machine}
use Rattle.spec_encoding.specs.Parts.{highest, number_of_bits}
use Rattle.spec_lines.specs.LineFault.{LineFault, Head}
use Rattle.spec_lines.specs.Given.{pair_in}
use Rattle.spec_lines.specs.Parsed.{parsed}
use Rattle.spec_lines.specs.Reasons.{reason}
use Rattle.spec_lines.specs.Assembly.{lines_in, assembled}

abbrev digit_list : List ℕ → List Digit
digit_list text = filter_map digit_of text

abbrev field : List ℕ → ℕ → List ℕ → Item
field name start text = record { name = Some name; start = start; digits = digit_list text; marks = map (λ _. false) (digit_list text) }

abbrev bits : ℕ → List ℕ → Item
bits start text = record { name = None; start = start; digits = digit_list text; marks = map (λ _. false) (digit_list text) }

abbrev should_be_ones : ℕ → List ℕ → Item
should_be_ones start text = record { name = None; start = start; digits = digit_list text; marks = map (λ _. true) (digit_list text) }

abbrev group : List ℕ → List Item → Own
group name items = record (bare Group name) { items = items }

abbrev leaf : List ℕ → List Item → Own
leaf name items = record (bare Leaf name) { items = items }

abbrev add : List Own
add = group (codes "dpimm") (bits 26 (codes "100") ∷ [])
    ∷ leaf (codes "ADD_64_addsub_imm") (field (codes "sf") 31 (codes "1") ∷ field (codes "op") 30 (codes "0") ∷ field (codes "S") 29 (codes "0") ∷ bits 23 (codes "100010") ∷ field (codes "sh") 22 (codes "x")
    ∷ field (codes "imm12") 10 (codes "xxxxxxxxxxxx") ∷ field (codes "Rn") 5 (codes "xxxxx") ∷ field (codes "Rd") 0 (codes "xxxxx") ∷ []) ∷ []

abbrev ret : List Own
ret = group (codes "control") (bits 26 (codes "101") ∷ [])
    ∷ leaf (codes "RET_64R_branch_reg") (bits 10 (codes "1101011001011111000000") ∷ field (codes "Rn") 5 (codes "xxxxx") ∷ bits 0 (codes "00000") ∷ []) ∷ []

abbrev load : List Own
load = group (codes "ldst") (bits 27 (codes "1") ∷ bits 25 (codes "0") ∷ [])
    ∷ leaf (codes "LDXR_LR64_ldstexclr") (bits 30 (codes "11") ∷ bits 24 (codes "001000") ∷ bits 23 (codes "0") ∷ field (codes "L") 22 (codes "1") ∷ bits 21 (codes "0") ∷ should_be_ones 16 (codes "11111")
    ∷ field (codes "o0") 15 (codes "0") ∷ should_be_ones 10 (codes "11111") ∷ field (codes "Rn") 5 (codes "xxxxx") ∷ field (codes "Rt") 0 (codes "xxxxx") ∷ []) ∷ []

abbrev twin : List Own
twin = group (codes "reserved") (bits 31 (codes "0") ∷ bits 25 (codes "0000") ∷ [])
    ∷ leaf (codes "TWIN_test") (bits 16 (codes "0000000000000001") ∷ field (codes "c") 12 (codes "xx10") ∷ field (codes "b") 4 (codes "xxxxxxxx") ∷ field (codes "a") 0 (codes "xxxxxxxx") ∷ []) ∷ []

abbrev aese : List Own
aese = group (codes "simd") (bits 25 (codes "111") ∷ [])
    ∷ record (leaf (codes "AESE_B_cryptoaes") (bits 24 (codes "01001110") ∷ field (codes "size") 22 (codes "00") ∷ bits 17 (codes "10100") ∷ field (codes "opcode") 12 (codes "00100") ∷ bits 10 (codes "10")
    ∷ field (codes "Rn") 5 (codes "xxxxx") ∷ field (codes "Rd") 0 (codes "xxxxx") ∷ [])) { condition = Some (Call IsFeatureImplemented (exprs_of (Name (codes "FEAT_AES") ∷ []))) } ∷ []

-- without the feature of the last leaf; two leaves have one name
abbrev machine : Machine
machine = record {
  configuration = record { parameters = record { name = codes "FEAT_AES"; state = Flag false } ∷ []; atoms = [] };
  paths = add ∷ ret ∷ load ∷ twin ∷ aese ∷ (leaf (codes "DUP") [] ∷ []) ∷ (leaf (codes "DUP") [] ∷ []) ∷ [];
  aliases = [];
}

-- the word of a line, or the place and the reason
abbrev said : List ℕ → Result ℕ (ℕ × List ℕ)
said line = result_map_both (λ w. w) (λ (fault : LineFault). (fault.at, reason machine fault.why)) (parsed machine line)

-- ---- words

word_line : said (codes "word 0xd503201f") ≡ Ok 0xd503_201f
word_line = refl

decimal_word : said (codes "  word   07  ") ≡ Ok 7
decimal_word = refl

largest_word : said (codes "word 4294967295") ≡ Ok 0xffff_ffff
largest_word = refl

too_large_word : said (codes "word 4294967296") ≡ Err (5, codes "pair")
too_large_word = refl

no_number : said (codes "word ") ≡ Err (5, codes "pair")
no_number = refl

two_numbers : said (codes "word 1 2") ≡ Err (7, codes "pair")
two_numbers = refl

-- of a bad number and one too many the first is told
bad_number_of_two : said (codes "word x 2") ≡ Err (5, codes "pair")
bad_number_of_two = refl

-- a CR and a tab are no blanks
carriage_return : said (codes "word 1" ++ 13 ∷ []) ≡ Err (5, codes "pair")
carriage_return = refl

tab : said (codes "word" ++ 9 ∷ codes "1") ≡ Err (0, codes "head")
tab = refl

-- ---- heads and labels

other_head : said (codes "nop") ≡ Err (0, codes "head")
other_head = refl

blanks_alone : said (codes "   ") ≡ Err (3, codes "head")
blanks_alone = refl

no_byte : said [] ≡ Err (0, codes "head")
no_byte = refl

head_behind_blanks : said (codes "  Leaf RET") ≡ Err (2, codes "head")
head_behind_blanks = refl

no_alias_label : said (codes "alias") ≡ Err (5, codes "label")
no_alias_label = refl

other_label : said (codes "leaf RET") ≡ Err (5, codes "label")
other_label = refl

no_label : said (codes "leaf") ≡ Err (4, codes "label")
no_label = refl

-- a label is told before what stands behind it
label_before_pairs : said (codes "leaf RET Rn") ≡ Err (5, codes "label")
label_before_pairs = refl

numbered_label : said (codes "leaf DUP rest=5") ≡ Err (5, codes "label")
unfolding digits
numbered_label = refl

numbered_word : said (codes "leaf DUP#6 rest=5") ≡ Ok 5
unfolding digits highest number_of_bits
numbered_word = refl

-- ---- fields

add_word : said (codes "leaf ADD_64_addsub_imm sh=0 imm12=1 Rn=1 Rd=0") ≡ Ok 0x9100_0420
unfolding digits highest number_of_bits
add_word = refl

any_order : said (codes "leaf ADD_64_addsub_imm Rd=0x0 Rn=0x01 rest=0 imm12=01 sh=0") ≡ Ok 0x9100_0420
unfolding digits highest number_of_bits
any_order = refl

wide : said (codes "leaf ADD_64_addsub_imm sh=0 imm12=1 Rn=32 Rd=0") ≡ Err (5, codes "wide 2")
unfolding digits highest number_of_bits
wide = refl

-- a rest is not counted among the pairs
wide_behind_rest : said (codes "leaf ADD_64_addsub_imm rest=0 sh=0 imm12=1 Rn=32 Rd=0") ≡ Err (5, codes "wide 2")
unfolding digits highest number_of_bits
wide_behind_rest = refl

doubled : said (codes "leaf ADD_64_addsub_imm sh=0 imm12=1 Rn=1 Rn=2") ≡ Err (5, codes "doubled 3")
unfolding digits highest number_of_bits
doubled = refl

missing : said (codes "leaf ADD_64_addsub_imm sh=0 imm12=1 Rn=1") ≡ Err (5, codes "missing Rd")
unfolding digits highest number_of_bits
missing = refl

-- a name may be any bytes but those that split tokens and pairs
unknown : said (codes "leaf ADD_64_addsub_imm sh=0 " ++ (255 ∷ codes "=1")) ≡ Err (5, codes "unknown 1")
unfolding digits highest number_of_bits
unknown = refl

clash : said (codes "leaf TWIN_test a=16 b=0 c=2") ≡ Err (5, codes "clash 4")
unfolding digits highest number_of_bits
clash = refl

misfixed : said (codes "leaf TWIN_test a=0 b=0 c=0") ≡ Err (5, codes "fixed 13")
unfolding digits highest number_of_bits
misfixed = refl

twin_word : said (codes "leaf TWIN_test a=0 b=0 c=2") ≡ Ok 0x0001_2000
unfolding digits highest number_of_bits
twin_word = refl

stray : said (codes "leaf RET_64R_branch_reg Rn=1 rest=1") ≡ Err (5, codes "restbit 0")
unfolding digits highest number_of_bits
stray = refl

load_word : said (codes "leaf LDXR_LR64_ldstexclr Rn=1 Rt=0 rest=0x001f0000") ≡ Ok 0xc840_7c20
unfolding digits highest number_of_bits
load_word = refl

excluded : said (codes "leaf AESE_B_cryptoaes Rn=0 Rd=0") ≡ Err (5, codes "excluded AESE_B_cryptoaes")
unfolding digits highest number_of_bits
excluded = refl

-- ---- pairs

no_value : said (codes "leaf RET_64R_branch_reg Rn=") ≡ Err (24, codes "pair")
no_value = refl

no_equals : said (codes "leaf RET_64R_branch_reg Rn") ≡ Err (24, codes "pair")
no_equals = refl

no_name : said (codes "leaf RET_64R_branch_reg Rn=1 =1") ≡ Err (29, codes "pair")
no_name = refl

first_equals : pair_in (codes "a=b=1") ≡ None
first_equals = refl

second_rest : said (codes "leaf RET_64R_branch_reg rest=0 Rn=1 rest=0") ≡ Err (36, codes "pair")
second_rest = refl

-- the pair is told before what the encoder refuses
pair_before_fields : said (codes "leaf RET_64R_branch_reg XX=1 Rn=1 Rd") ≡ Err (34, codes "pair")
pair_before_fields = refl

-- so many pairs of one name
abbrev pairs : ℕ → List ℕ
pairs count = flat_map (λ (_ : ℕ). codes " a=1") (replicate count 0)

as_many_as_may_be : said (codes "leaf TWIN_test" ++ pairs 256) ≡ Err (5, codes "doubled 1")
unfolding digits highest number_of_bits
as_many_as_may_be = refl

one_more : said (codes "leaf TWIN_test" ++ pairs 257) ≡ Err (1039, codes "many")
one_more = refl

-- a rest is none of them, and the first of a bad pair and one too many is told
rest_is_none : said (codes "leaf TWIN_test" ++ (pairs 256 ++ codes " rest=0")) ≡ Err (5, codes "doubled 1")
unfolding digits highest number_of_bits
rest_is_none = refl

bad_as_one_more : said (codes "leaf TWIN_test" ++ (pairs 256 ++ codes " a=")) ≡ Err (1039, codes "pair")
bad_as_one_more = refl

many_before_bad : said (codes "leaf TWIN_test" ++ (pairs 257 ++ codes " a=")) ≡ Err (1039, codes "many")
many_before_bad = refl

too_long : said (replicate 65537 32) ≡ Err (65536, codes "long")
too_long = refl

-- ---- streams

last_line_open : lines_in (codes "a\n\nbc") ≡ codes "a" ∷ [] ∷ codes "bc" ∷ []
last_line_open = refl

last_line_ended : lines_in (codes "a\n\nbc\n") ≡ codes "a" ∷ [] ∷ codes "bc" ∷ []
last_line_ended = refl

words_alone : assembled machine (codes "word 0xd503201f\n\nword 1") ≡ record { bytes = 0x1f ∷ 0x20 ∷ 0x03 ∷ 0xd5 ∷ 1 ∷ 0 ∷ 0 ∷ 0 ∷ []; refused = None }
words_alone = refl

-- an empty line has a number, and nothing comes of the lines behind one that is refused
third_line : assembled machine (codes "word 1\n\n nop\nword 2\n") ≡ record { bytes = 1 ∷ 0 ∷ 0 ∷ 0 ∷ []; refused = Some (record { number = 3; fault = record { at = 1; why = Head } }) }
third_line = refl
