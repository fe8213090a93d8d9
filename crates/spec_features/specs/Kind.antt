-- The kinds of parameters, by the text of their `_type`, after AARCHMRS, Arm's machine-readable architecture.
use Rattle.std.specs.Prelude.{ℕ, List, [], ◌∷◌, Option, codes, bytes_eq, find}
use Rattle.spec_features.specs.Features.{ParamKind, ABoolean, AnInteger, AnEnum}

abbrev pub kind_text : ParamKind → List ℕ
kind_text ABoolean = codes "Parameters.Boolean"
kind_text AnInteger = codes "Parameters.Integer"
kind_text AnEnum = codes "Parameters.Enum"

abbrev pub kind_named : List ℕ → Option ParamKind
kind_named text = find (λ k. bytes_eq (kind_text k) text) (ABoolean ∷ AnInteger ∷ AnEnum ∷ [])
