-- What features stand for, where a name is its number, and with the texts of names.
use Rattle.std.specs.Prelude.{◌≡◌, ◌≢◌, ℕ, ◌≤◌, ◌<◌, List, length, map, sum_by, All, AllPairs}
use Rattle.spec_walk.specs.Limits.{expression_limit}
use Rattle.spec_features.specs.Features as spec
use Rattle.spec_features.specs.Features.{ParamOf, FeaturesOf, ABoolean, AnInteger, AnEnum, EachName, booleans_alone, with_names, param_limit}
use Rattle.spec_names.specs.Distinct.{distinct}
use Rattle.mrs_names.specs.Texts.{AreNames}
use Rattle.mrs_names.specs.declared.name_id.NameId.{NameId}
use Rattle.spec_features.specs.Theory.{parts}
use Rattle.mrs_arena.specs.Expressions.{expr_at}
use Rattle.mrs_arena.specs.Placed.{text_of}
use Rattle.features_reader.specs.declared.features.ParamKind.{ParamKind}
use Rattle.features_reader.specs.declared.features.ParamKind.TheVariants.{Boolean, Integer, Enum}
use Rattle.features_reader.specs.declared.features.Param.{Param}
use Rattle.features_reader.specs.declared.features.Features.{Features}

abbrev pub param_kind_of : ParamKind → spec.ParamKind
param_kind_of Boolean = ABoolean
param_kind_of Integer = AnInteger
param_kind_of Enum = AnEnum

abbrev pub param_of : Param → ParamOf ℕ
param_of p = record { name = p.name.0; kind = param_kind_of p.kind }

abbrev pub features_of : Features → FeaturesOf ℕ
features_of f = record { params = map param_of f.params.items; constraints = map (λ id. expr_at f.arena.exprs id.0) f.constraints.items }

-- with the texts of the names
abbrev pub features_in : List (List ℕ) → Features → spec.Features
features_in names f = with_names (text_of names) (features_of f)

-- so many parameters as may be, of distinct names, and so many constraints as may be, which are expressions of the arena;
-- connectives and other parts under connectives, counted as nested trees, are together as many as expressions may be
pub record AreFeatures (f : Features) : Type 0 where
  pub few : length f.params.items ≤ param_limit
  pub distinct : AllPairs (λ first second. first.name.0 ≢ second.name.0) f.params.items
  pub few_constraints : length f.constraints.items ≤ expression_limit
  pub within : All (λ id. id.0 < length f.arena.exprs) f.constraints.items
  pub few_parts : sum_by parts (features_of f).constraints ≤ expression_limit

-- parameters of these names, each once in the order in which they come first, with no constraint: so it is with the texts of
-- names too, as long as each number has its own
abbrev pub AreNamed : List NameId → Features → Type 0
AreNamed list f =
    (texts : List (List ℕ)) → AreNames texts → All (λ name. name.0 < length texts) list
    → (features_in texts f ≡ booleans_alone (distinct (map (λ name. text_of texts name.0) list))) × EachName (λ n. n < length texts) (features_of f)
