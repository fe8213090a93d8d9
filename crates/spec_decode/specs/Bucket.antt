-- The bucket of a word: the leaves that remain where bits that tell leaves apart are looked at one by one. Not from Arm: the
-- rule is this project's own, and it bounds how many leaves are tried. The bits are those of encodings, as Arm's
-- architecture gives them by patterns of bits (Arm Architecture Reference Manual, DDI 0487).
use Rattle.std.specs.Prelude.{◌≡◌, ℕ, zero, suc, ◌+◌, Bool, false, ◌&&◌, ◌==◌, nat_le, List, [], ◌∷◌, length, map, filter, slice_index_or, All, Contains, Option, Some, None, is_some, if◌then◌else◌}
use Rattle.std.specs.List.{list_all, list_any}
use Rattle.spec_bits.specs.Bits.{bit_of}
use Rattle.spec_bits.specs.Pattern.{Digit, value_at}
use Rattle.spec_expressions.specs.Scope.{Configuration}
use Rattle.spec_instructions.specs.Tree.{Own}
use Rattle.spec_instructions.specs.Paths.{path_items}
use Rattle.spec_instructions.specs.Fields.{merged, IsWithinWord}
use Rattle.spec_decode.specs.Verdict.{verdict}
use Rattle.spec_decode.specs.Found.{Candidate, with_leaf, found}

-- a leaf as words are told apart: its number, and the digits that its path fixes, merged
pub record Encoding : Type 0 where
  pub leaf : ℕ
  pub digits : List Digit

-- the encoding of leaf k before others; none where two items of its path clash
abbrev pub with_encoding : ℕ → Option (List Digit) → List Encoding → List Encoding
with_encoding k None others = others
with_encoding k (Some digits) others = record { leaf = k; digits = digits } ∷ others

abbrev pub encodings_from : ℕ → List (List Own) → List Encoding
encodings_from k [] = []
encodings_from k (path ∷ paths) = with_encoding k (merged path) (encodings_from (k + 1) paths)

-- the leaves of these paths without clashes, in order
abbrev pub encodings : List (List Own) → List Encoding
encodings paths = encodings_from 0 paths

-- ---- bits that tell leaves apart

abbrev pub is_value : ℕ → Option ℕ → Bool
is_value v None = false
is_value v (Some u) = u == v

-- a leaf fixes bit i, to any value or to this one
unfoldable pub is_fixed : ℕ → Encoding → Bool
is_fixed i e = is_some (value_at e.digits i)

unfoldable pub fixes_to : ℕ → ℕ → Encoding → Bool
fixes_to i v e = is_value v (value_at e.digits i)

-- bit i splits leaves: all fix it, some to 0 and some to 1
unfoldable pub splits : ℕ → List Encoding → Bool
splits i es = list_all (is_fixed i) es && (list_any (fixes_to i 0) es && list_any (fixes_to i 1) es)

-- the highest bit below bit n that splits leaves
unfoldable pub highest_split : ℕ → List Encoding → Option ℕ
highest_split zero es = None
highest_split (suc n) es = if splits n es then Some n else highest_split n es

-- the leaves that fix bit i to that value
unfoldable pub agreeing : ℕ → ℕ → List Encoding → List Encoding
agreeing i v es = filter (fixes_to i v) es

-- the bit that is looked at next: of more than 8 leaves the highest bit of the word that splits them, if there is one
unfoldable pub next_bit : List Encoding → Option ℕ
next_bit es = if nat_le (length es) 8 then None else highest_split 32 es

-- ---- the bucket

-- While a bit is left to be looked at, those leaves remain that agree with the word at it.
pub data Bucket (w : ℕ) (out : List Encoding) : List Encoding → Type 0 where
  stop : (es : List Encoding) → next_bit es ≡ None → es ≡ out → Bucket w out es
  narrow : (es : List Encoding) (i : ℕ) → next_bit es ≡ Some i → Bucket w out (agreeing i (bit_of w i) es) → Bucket w out es

-- ---- what this comes to

-- each word has one bucket
abbrev pub BucketsAreOne : Type 0
BucketsAreOne = (w : ℕ) (one other es : List Encoding) → Bucket w one es → Bucket w other es → one ≡ other

-- those of these leaves that are not excluded, each with its verdict
abbrev pub found_among : List Encoding → List (List Own) → Configuration → ℕ → List Candidate
found_among [] paths g w = []
found_among (e ∷ es) paths g w = with_leaf e.leaf (verdict (slice_index_or paths e.leaf []) g w) (found_among es paths g w)

-- all leaves at which a word is found stand in its bucket, and so they are those found among the bucket's
pub record HoldsFound (paths : List (List Own)) (g : Configuration) (w : ℕ) (bucket : List Encoding) : Type 0 where
  pub each : All (λ c. Contains (map (λ e. e.leaf) bucket) c.leaf) (found paths g w)
  pub among : found_among bucket paths g w ≡ found paths g w

-- the items of paths lie within the word, as those of a document without faults do
abbrev pub AreWithinWord : List (List Own) → Type 0
AreWithinWord paths = All (λ path. All IsWithinWord (path_items path)) paths

abbrev pub BucketsHoldFound : Type 0
BucketsHoldFound = (paths : List (List Own)) (g : Configuration) (w : ℕ) (bucket : List Encoding) → AreWithinWord paths → Bucket w bucket (encodings paths) → HoldsFound paths g w bucket
