-- Which leaves a word is found at.
use Rattle.std.specs.Prelude.{◌≡◌, ◌≢◌, ◌<◌, ℕ, ◌+◌, List, [], ◌∷◌, length, slice_index_or, All, AllPairs, Contains}
use Rattle.spec_expressions.specs.Truth.{Truth, Yes, No, Open}
use Rattle.spec_expressions.specs.Scope.{Configuration}
use Rattle.spec_instructions.specs.Tree.{Own}
use Rattle.spec_decode.specs.Verdict.{verdict}

-- a leaf that is not excluded: its number, and its verdict, Yes or Open
pub record Candidate : Type 0 where
  pub leaf : ℕ
  pub verdict : Truth

-- a leaf of that verdict before others, unless its verdict is No
abbrev pub with_leaf : ℕ → Truth → List Candidate → List Candidate
with_leaf k Yes others = record { leaf = k; verdict = Yes } ∷ others
with_leaf k No others = others
with_leaf k Open others = record { leaf = k; verdict = Open } ∷ others

-- the leaves that are not excluded, the first of these paths being that of leaf k
abbrev pub found_from : ℕ → List (List Own) → Configuration → ℕ → List Candidate
found_from k [] g w = []
found_from k (path ∷ paths) g w = with_leaf k (verdict path g w) (found_from (k + 1) paths g w)

-- the leaves at which a word is found, in order
abbrev pub found : List (List Own) → Configuration → ℕ → List Candidate
found paths g w = found_from 0 paths g w

-- ---- what this comes to

-- the candidates are the leaves of these paths whose verdict is not No, each with its verdict, once, in order
pub record AreFound (paths : List (List Own)) (g : Configuration) (w : ℕ) (found : List Candidate) : Type 0 where
  pub each : All (λ c. (c.leaf < length paths) × (verdict (slice_index_or paths c.leaf []) g w ≡ c.verdict) × (c.verdict ≢ No)) found
  pub every : (k : ℕ) → k < length paths → verdict (slice_index_or paths k []) g w ≢ No → Contains found (record { leaf = k; verdict = verdict (slice_index_or paths k []) g w })
  pub order : AllPairs (λ first second. first.leaf < second.leaf) found

abbrev pub FoundIsExact : Type 0
FoundIsExact = (paths : List (List Own)) (g : Configuration) (w : ℕ) → AreFound paths g w (found paths g w)
