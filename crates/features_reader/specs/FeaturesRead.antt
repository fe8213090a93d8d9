-- What reading a Features document gives: its parameters and constraints, or the first fault.
use Rattle.std.specs.Prelude.{◌≡◌, ◌≢◌, ℕ, ◌<◌, ◌≤◌, List, length, map, flat_map, All, AllPairs, Result, Ok, Err, ⊤}
use Rattle.serde_json.specs.Data.{Data}
use Rattle.spec_walk.specs.Limits.{Counts, from_held}
use Rattle.spec_features.specs.Features as spec
use Rattle.spec_features.specs.Features.{EachName, param_limit}
use Rattle.spec_features.specs.Reading.{features_read}
use Rattle.spec_features.specs.Walk.{Constrained}
use Rattle.mrs_arena.specs.Placed.{text_of}
use Rattle.mrs_arena.specs.declared.expr_id.ExprId.{ExprId}
use Rattle.mrs_walk.specs.Faults.{fault_of}
use Rattle.mrs_walk.specs.declared.fault.ReadFault.{ReadFault}
use Rattle.mrs_walk.specs.declared.fault.ReadFault.TheVariants.{Schema, NoMemory}
use Rattle.features_reader.specs.declared.features.Param.{Param}
use Rattle.features_reader.specs.declared.features.Features.{Features}
use Rattle.schema_draft.specs.Drafted.{Drafted}
use Rattle.expression_reader.specs.ExprsRead.{AreRead}
use Rattle.features_reader.specs.FeatureViews.{param_kind_of, features_of, features_in, AreFeatures}

-- ---- on the way

-- a parameter with the text of its name
abbrev pub param_in : List (List ℕ) → Param → spec.Param
param_in names p = record { name = text_of names p.name.0; kind = param_kind_of p.kind }

abbrev pub texts_of : List (List ℕ) → List Param → List (List ℕ)
texts_of names params = map (λ p. text_of names p.name.0) params

abbrev pub numbers_of : List ExprId → List ℕ
numbers_of ids = map (λ id. id.0) ids

-- the names of parameters are held
abbrev pub AreHeldParams : List (List ℕ) → List Param → Type 0
AreHeldParams names params = All (λ p. p.name.0 < length names) params

-- the names of those that were read
abbrev pub names_before : List Constrained → List (List ℕ)
names_before before = map (λ p. p.0.name) before

-- a parameter and its constraints were read
pub record IsParamRead (old new : Drafted) (p : Constrained) (param : Param) (own : List ExprId) : Type 0 where
  pub param_is : param_in new.names param ≡ p.0
  pub held : param.name.0 < length new.names
  pub own_are : AreRead old new p.1 (numbers_of own)

-- parameters of distinct names, no more than there may be
pub record AreParams (names : List (List ℕ)) (params : List Param) : Type 0 where
  pub held : AreHeldParams names params
  pub few : length params ≤ param_limit
  pub distinct : AllPairs (λ first second. first.name.0 ≢ second.name.0) params

-- parameters were read, and behind one another their constraints
pub record AreParamsRead (old new : Drafted) (found : List Constrained) (params : List Param) (all : List ExprId) : Type 0 where
  pub params_are : map (param_in new.names) params ≡ map (λ p. p.0) found
  pub sound : AreParams new.names params
  pub all_are : AreRead old new (flat_map (λ p. p.1) found) (numbers_of all)

-- a document was read
pub record IsDocumentRead (old new : Drafted) (f : spec.Features) (params : List Param) (all : List ExprId) : Type 0 where
  pub params_are : map (param_in new.names) params ≡ f.params
  pub sound : AreParams new.names params
  pub all_are : AreRead old new f.constraints (numbers_of all)

-- ---- in the end

-- the counts of a walk that put these names, and so many expressions
abbrev pub with_expressions : List (List ℕ) → ℕ → Counts
with_expressions names n = record (from_held names) { expressions = n }

-- the walk met no fault and passed no limit, and its value is those features, of which each name is held
pub record AreFeaturesOf (d : Data) (before names : List (List ℕ)) (f : Features) : Type 0 where
  pub walk : features_read before d ≡ Ok (features_in names f, with_expressions names (length f.arena.exprs))
  pub held : EachName (λ n. n < length names) (features_of f)
  pub sound : AreFeatures f

-- that, or the first fault, unless memory ran out
abbrev pub ReadsFeatures : Data → List (List ℕ) → List (List ℕ) → Result Features ReadFault → Type 0
ReadsFeatures d before names (Ok f) = AreFeaturesOf d before names f
ReadsFeatures d before names (Err (Schema f)) = features_read before d ≡ Err (fault_of f)
ReadsFeatures d before names (Err NoMemory) = ⊤
