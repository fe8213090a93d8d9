-- The word that values of the shown fields and a rest are encoded to along a path, under a configuration.
use Rattle.std.specs.Prelude.{ℕ, ◌^◌, ◌≡◌, ◌≢◌, ◌<◌, ◌↔◌, ◌⊎◌, bytes_eq, List, map, take, All, Any, AllPairs, Some, None, Result, Ok, slice_get, false}
use Rattle.spec_bits.specs.Bits.{slice}
use Rattle.spec_bits.specs.Item.{item_holds}
use Rattle.spec_expressions.specs.Truth.{No}
use Rattle.spec_expressions.specs.Scope.{Configuration}
use Rattle.spec_instructions.specs.Tree.{Own}
use Rattle.spec_instructions.specs.Paths.{path_items}
use Rattle.spec_instructions.specs.Fields.{Field, IsWithinWord}
use Rattle.spec_instructions.specs.Aliases.{AliasPath, alias_path}
use Rattle.spec_decode.specs.Verdict.{verdict, condition_truth}
use Rattle.spec_decode.specs.Preferred.{preferred}
use Rattle.spec_encoding.specs.Refusal.{Refusal}
use Rattle.spec_encoding.specs.Named.{FieldOf, encoded}
use Rattle.spec_encoding.specs.PathLayout.{shown, layout, rest_of, excluded_at}

abbrev pub named_field : Field → FieldOf (List ℕ)
named_field f = record { name = f.name; start = f.start; width = f.width }

-- the word, or the first refusal
abbrev pub encoding : List Own → Configuration → List (List ℕ × ℕ) → ℕ → Result ℕ (Refusal (List ℕ))
encoding path g pairs rest = encoded bytes_eq (layout path) (excluded_at path g) (map named_field (shown path)) pairs rest

-- ---- which word this is

-- a pair gives the value that a word has in a field
pub record IsValueOf (w : ℕ) (pair : List ℕ × ℕ) (field : Field) : Type 0 where
  pub name : field.name ≡ pair.0
  pub value : slice w field.start field.width ≡ pair.1

-- Pairs and a rest encode a word: the names of the pairs are distinct and are exactly those of the shown fields, each field of
-- the word has its value, the rest of the word is that one, and the path does not exclude the word.
pub record Encodes (path : List Own) (g : Configuration) (pairs : List (List ℕ × ℕ)) (rest w : ℕ) : Type 0 where
  pub is_word : w < 2 ^ 32
  pub distinct : AllPairs (λ first second. first.0 ≢ second.0) pairs
  pub values : All (λ pair. Any (IsValueOf w pair) (shown path)) pairs
  pub whole : All (λ field. Any (λ pair. pair.0 ≡ field.name) pairs) (shown path)
  pub is_rest : rest_of path w ≡ rest
  pub verdict_is : verdict path g w ≢ No

-- the items of a path lie within the word
abbrev pub IsFormed : List Own → Type 0
IsFormed path = All IsWithinWord (path_items path)

-- a word is answered exactly where it is encoded
abbrev pub EncodingIsExact : Type 0
EncodingIsExact = (path : List Own) (g : Configuration) (pairs : List (List ℕ × ℕ)) (rest w : ℕ) → IsFormed path → rest < 2 ^ 32 → (encoding path g pairs rest ≡ Ok w) ↔ Encodes path g pairs rest w

-- and there is at most one
abbrev pub EncodesOneWord : Type 0
EncodesOneWord = (path : List Own) (g : Configuration) (pairs : List (List ℕ × ℕ)) (rest w u : ℕ) → IsFormed path → Encodes path g pairs rest w → Encodes path g pairs rest u → w ≡ u

-- the shown fields of a word, with their values
abbrev pub own_pairs : List Own → ℕ → List (List ℕ × ℕ)
own_pairs path w = map (λ f. (f.name, slice w f.start f.width)) (shown path)

-- a word that a path does not exclude is encoded by its own fields and rest
abbrev pub OwnPairsEncode : Type 0
OwnPairsEncode = (path : List Own) (g : Configuration) (w : ℕ) → IsFormed path → w < 2 ^ 32 → verdict path g w ≢ No → Encodes path g (own_pairs path w) (rest_of path w) w

-- a word that a leaf does not exclude is encoded by its fields and rest along the path to the leaf's preferred alias, and so it is the one word that these encode
abbrev pub PreferredEncodes : Type 0
PreferredEncodes = (aliases : List AliasPath) (k : ℕ) (g : Configuration) (w i : ℕ) (a : AliasPath) → preferred aliases k g w ≡ Some i → slice_get aliases i ≡ Some a → IsFormed (alias_path a) → w < 2 ^ 32 → verdict a.above g w ≢ No
    → Encodes (alias_path a) g (own_pairs (alias_path a) w) (rest_of (alias_path a) w) w

-- ---- which node is told

-- a node excludes a word: an item of it does not hold, or its condition is No under the fields that are visible at it
pub record ExcludesAt (path : List Own) (g : Configuration) (w k : ℕ) : Type 0 where
  pub own : Own
  pub at : slice_get path k ≡ Some own
  pub why : Any (λ it. item_holds it w ≡ false) own.items ⊎ (condition_truth (take k path) own g w ≡ No)

-- node k excludes a word, and no node above it does
pub record IsFirstExcluding (path : List Own) (g : Configuration) (w k : ℕ) : Type 0 where
  pub excludes : ExcludesAt path g w k
  pub first : (j : ℕ) → j < k → ExcludesAt path g w j → ⊥

-- the node that is told is the first that excludes, and there is none exactly where the verdict is not No
pub record IsExclusion (path : List Own) (g : Configuration) (w : ℕ) : Type 0 where
  pub some : (k : ℕ) → (excluded_at path g w ≡ Some k) ↔ IsFirstExcluding path g w k
  pub none : (excluded_at path g w ≡ None) ↔ (verdict path g w ≢ No)

abbrev pub ExclusionIsExact : Type 0
ExclusionIsExact = (path : List Own) (g : Configuration) (w : ℕ) → IsExclusion path g w
