-- The fields and the rest that a line tells of a word encode the word.
use Rattle.std.proofs.Common.{◌≡◌, ◌≢◌, ◌∙◌, ap, sym, subst, refl, ℕ, ◌<◌, ◌^◌, List, [], ◌∷◌, length, Option, Some, None, arith}
use Rattle.std.specs.Prelude.{slice_get, slice_index_or}
use Rattle.std.proofs.lemmas.List.{length-map, get_or-map}
use Rattle.std.proofs.lemmas.Option.{get_or_from_slice_get, slice_get_within}
use Rattle.spec_expressions.specs.Truth.{No}
use Rattle.spec_expressions.specs.Scope.{Configuration}
use Rattle.spec_instructions.specs.Tree.{Own}
use Rattle.spec_instructions.specs.Aliases.{AliasPath, alias_path, alias_paths, IsBelowLeaf, AreBelowLeaves}
use Rattle.spec_decode.specs.Verdict.{verdict}
use Rattle.spec_decode.specs.Found.{Candidate, found}
use Rattle.spec_decode.specs.Preferred.{preferred}
use Rattle.spec_decode.specs.Machine.{Machine}
use Rattle.spec_decode.proofs.FoundLaws.{found_is_exact}
use Rattle.spec_decode.proofs.PreferredLaws.{preferred_is_exact, preferred_has_leaf_verdict}
use Rattle.spec_encoding.specs.PathLayout.{rest_of}
use Rattle.spec_encoding.specs.Encoding.{IsFormed, own_pairs}
use Rattle.spec_encoding.proofs.EncodingLaws.{encodes_one_word, own_pairs_encode}
use Rattle.spec_lines.specs.Way.{Way, ByLeaf, ByAlias, way_path, way_by, way_of}
use Rattle.spec_lines.specs.Encoded.{TellsWord, IsFormedMachine, LoneFieldsTellWord}

-- ---- a leaf that is found alone

abbrev IsFoundLeaf : List (List Own) → Configuration → ℕ → Candidate → Type 0
IsFoundLeaf paths g w c = (c.leaf < length paths) × (verdict (slice_index_or paths c.leaf []) g w ≡ c.verdict) × (c.verdict ≢ No)

-- it is one of the paths', and does not exclude the word
pub record IsLone (paths : List (List Own)) (g : Configuration) (w : ℕ) (c : Candidate) : Type 0 where
  pub within : c.leaf < length paths
  pub verdict_is : verdict (slice_index_or paths c.leaf []) g w ≢ No

pub lone_is : (paths : List (List Own)) (g : Configuration) (w : ℕ) (c : Candidate) → found paths g w ≡ c ∷ [] → IsLone paths g w c
lone_is paths g w c is =
    let some : 0 < length (found paths g w) = omega (arith, ap length is) in
    let first = ap (λ (cs : List Candidate). slice_index_or cs 0 c) is in
    let each = subst (IsFoundLeaf paths g w) first ((found_is_exact paths g w).each 0 c some) in
    record { within = each.0; verdict_is = λ e. each.2 (sym each.1 ∙ e) }

-- ---- the way by which it is told

-- the paths of that kind, and the number among them
abbrev pub way_paths : Machine → Way → List (List Own)
way_paths machine (ByLeaf k) = machine.paths
way_paths machine (ByAlias a) = alias_paths machine.aliases

abbrev pub way_number : Way → ℕ
way_number (ByLeaf k) = k
way_number (ByAlias a) = a

-- its path is one of these, and does not exclude the word
pub record IsTold (machine : Machine) (w : ℕ) (way : Way) : Type 0 where
  pub within : way_number way < length (way_paths machine way)
  pub verdict_is : verdict (way_path machine way) machine.configuration w ≢ No

-- an alias, by its number: there is one, its path is that, and it is one of a leaf
record IsAlias (paths : List (List Own)) (aliases : List AliasPath) (i : ℕ) (a : AliasPath) : Type 0 where
  within : i < length (alias_paths aliases)
  path : slice_index_or (alias_paths aliases) i [] ≡ alias_path a
  leaf : slice_index_or paths a.leaf [] ≡ a.above

alias_is : (paths : List (List Own)) (aliases : List AliasPath) (i : ℕ) (a : AliasPath) → AreBelowLeaves paths aliases → slice_get aliases i ≡ Some a → IsAlias paths aliases i a
alias_is paths aliases i a below at =
    let within : i < length aliases = slice_get_within aliases i a at in
    let here = get_or_from_slice_get aliases i a a at in
    let one : IsBelowLeaf paths a = subst (IsBelowLeaf paths) here (below.each i a within) in
    record {
      within = omega (arith, within, length-map aliases alias_path);
      path = get_or-map alias_path aliases i a [] within ∙ ap alias_path here;
      leaf = get_or_from_slice_get paths a.leaf a.above [] one.at;
    }

pub lone_told : (machine : Machine) (w : ℕ) (c : Candidate) → AreBelowLeaves machine.paths machine.aliases → found machine.paths machine.configuration w ≡ c ∷ [] → IsTold machine w (way_of machine c.leaf w)
lone_told machine w c below is = go (lone_is machine.paths machine.configuration w c is) (preferred machine.aliases c.leaf machine.configuration w) refl
  where
    go : IsLone machine.paths machine.configuration w c → (o : Option ℕ) → preferred machine.aliases c.leaf machine.configuration w ≡ o → IsTold machine w (way_by c.leaf o)
    go lone None e = record { within = lone.within; verdict_is = lone.verdict_is }
    go lone (Some i) e =
        let first = ((preferred_is_exact machine.aliases c.leaf machine.configuration w).some i).0 e in
        let a : AliasPath = first.is.alias in
        let alias = alias_is machine.paths machine.aliases i a below first.is.at in
        let leaf : slice_index_or machine.paths c.leaf [] ≡ a.above = ap (λ k. slice_index_or machine.paths k []) (sym first.is.of_leaf) ∙ alias.leaf in
        let same = ap (λ path. verdict path machine.configuration w) alias.path ∙ preferred_has_leaf_verdict machine.aliases c.leaf machine.configuration w i a e first.is.at ∙ ap (λ path. verdict path machine.configuration w) (sym leaf) in
        record { within = alias.within; verdict_is = λ no. lone.verdict_is (sym same ∙ no) }

-- the items of its path lie within the word
pub way_formed : (machine : Machine) (w : ℕ) (way : Way) → IsFormedMachine machine → IsTold machine w way → IsFormed (way_path machine way)
way_formed machine w (ByLeaf k) formed told = formed.paths k [] told.within
way_formed machine w (ByAlias a) formed told = formed.aliases a [] told.within

-- ---- the law

-- a word that a path does not exclude is told by its fields and its rest
pub told_by_own : (path : List Own) (g : Configuration) (w : ℕ) → IsFormed path → w < 2 ^ 32 → verdict path g w ≢ No → TellsWord path g w
told_by_own path g w formed low holds =
    let own = own_pairs_encode path g w formed low holds in
    record { encodes = own; only = λ u is. encodes_one_word path g (own_pairs path w) (rest_of path w) u w formed is own }

pub lone_fields_tell_word : LoneFieldsTellWord
lone_fields_tell_word machine w c low formed is =
    let way : Way = way_of machine c.leaf w in
    let told = lone_told machine w c formed.below is in
    told_by_own (way_path machine way) machine.configuration w (way_formed machine w way formed told) low told.verdict_is
