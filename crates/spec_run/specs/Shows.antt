-- What the full line of a word shows: exactly the leaves that patterns and conditions along their paths do not exclude, and of a lone
-- leaf a label, fields and a rest that encode to that word alone.
use Rattle.std.specs.Prelude.{◌≡◌, ◌↔◌, ◌<◌, ℕ, List, [], ◌∷◌, ◌++◌, length, codes, flat_map, slice_index_or, All, Any, AllPairs}
use Rattle.spec_instructions.specs.Tree.{Own}
use Rattle.spec_instructions.specs.Paths.{label}
use Rattle.spec_instructions.specs.Aliases.{alias_label}
use Rattle.spec_decode.specs.Verdict.{Excludes, IsVerdict}
use Rattle.spec_decode.specs.Found.{Candidate}
use Rattle.spec_decode.specs.Preferred.{IsPreferable, IsFirstPreferable}
use Rattle.spec_decode.specs.Machine.{Machine}
use Rattle.spec_encoding.specs.Encoding.{Encodes}
use Rattle.spec_lines.specs.Hex.{hex}
use Rattle.spec_lines.specs.Pairs.{pair_text, rest_text}
use Rattle.spec_lines.specs.Way.{Way, ByLeaf, ByAlias, way_path}
use Rattle.spec_lines.specs.FullLine.{lone_text, candidate}

module _ (machine : Machine) (w : ℕ) where
  -- the path from the root of the document to leaf k
  abbrev pub leaf_path : ℕ → List Own
  leaf_path k = slice_index_or machine.paths k []

  -- These leaves are listed: exactly those whose path does not exclude the word by a pattern or a condition, once each, in the
  -- order of the document. Each has its verdict: Yes where all patterns along its path hold and all conditions are true, Open
  -- where no pattern fails and no condition is false but some condition is not known
  pub record AreListed (leaves : List Candidate) : Type 0 where
    pub exactly : (k : ℕ) → k < length machine.paths → Any (λ c. c.leaf ≡ k) leaves ↔ ¬ Excludes (leaf_path k) machine.configuration w
    pub each : All (λ c. (c.leaf < length machine.paths) × IsVerdict (leaf_path c.leaf) machine.configuration w c.verdict) leaves
    pub order : AllPairs (λ first second. first.leaf < second.leaf) leaves

  -- a lone leaf is told by its preferred alias, the first whose patterns hold and whose condition and preference are true; where it
  -- has none, by itself
  abbrev pub IsToldBy : ℕ → Way → Type 0
  IsToldBy k (ByAlias a) = IsFirstPreferable machine.aliases k machine.configuration w a
  IsToldBy k (ByLeaf l) = (l ≡ k) × ((a : ℕ) → ¬ IsPreferable machine.aliases k machine.configuration w a)

  -- the alias, behind the label of its leaf
  abbrev pub alias_text : Way → List ℕ
  alias_text (ByAlias a) = codes " alias " ++ alias_label machine.aliases a
  alias_text (ByLeaf l) = []

  -- `one` or `open`, the label, and the printed fields and rest, which encode to the word alone
  pub record ShowsLone (c : Candidate) (text : List ℕ) : Type 0 where
    pub way : Way
    pub told_by : IsToldBy c.leaf way
    pub pairs : List (List ℕ × ℕ)
    pub rest : ℕ
    pub alone : (u : ℕ) → Encodes (way_path machine way) machine.configuration pairs rest u ↔ (u ≡ w)
    pub is : text ≡ lone_text c.verdict ++ (label machine.paths c.leaf ++ (alias_text way ++ (flat_map pair_text pairs ++ rest_text rest)))

  -- none, the lone leaf, or all of several with their verdicts
  abbrev pub Shows : List Candidate → List ℕ → Type 0
  Shows [] text = text ≡ codes "none"
  Shows (c ∷ []) text = ShowsLone c text
  Shows (c ∷ d ∷ cs) text = text ≡ codes "many" ++ flat_map (candidate machine.paths) (c ∷ d ∷ cs)

  -- the line: the offset and the word in hexadecimal, and the leaves that are listed. What else a line tells of a word is to be
  -- one more part here
  pub record IsLine (offset : ℕ) (line : List ℕ) : Type 0 where
    pub leaves : List Candidate
    pub listed : AreListed leaves
    pub text : List ℕ
    pub shows : Shows leaves text
    pub is : line ≡ hex 8 offset ++ (32 ∷ (hex 8 w ++ (32 ∷ (text ++ 10 ∷ []))))
