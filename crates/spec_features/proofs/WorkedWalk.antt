-- Features documents and their first faults, by computing.
use Rattle.std.proofs.Common.{◌≡◌, ℕ, true, false, List, [], ◌∷◌, Option, Some, option_map, Result, Ok, Err, refl}
use Rattle.std.specs.Prelude.{codes}
use Rattle.std.specs.Fmt.{digits}
use Rattle.serde_json.specs.Read.{read}
use Rattle.serde_json.proofs.OnLiterals.{serde_json_on_literals}
use Rattle.spec_walk.specs.Event.{Why, Fault, Missing, UnlistedKind, WrongShape, BadName, Doubled}
use Rattle.spec_walk.specs.Limits.{◌>>=◌}
use Rattle.spec_expressions.specs.Expression.{Boolean, Name, Other}
use Rattle.spec_features.specs.Features.{ABoolean, AnInteger, AnEnum, Features}
use Rattle.spec_features.specs.Reading.{features_read}

abbrev features_in : List ℕ → Option (Result Features Fault)
features_in text = option_map (λ d. features_read [] d >>= λ r. Ok r.0) (read text)

abbrev fault_at : List ℕ → Why → Option (Result Features Fault)
fault_at at why = Some (Err (record { at = at; why = why }))

-- the constraints of the parameters, and then those of the document; a parameter that is not boolean has none that are read
in_order : features_in (codes "{\"constraints\":[{\"_type\":\"AST.Bool\",\"value\":true}],\"parameters\":[{\"_type\":\"Parameters.Boolean\",\"name\":\"A\",\"constraints\":[{\"_type\":\"AST.Identifier\",\"value\":\"A\"},{}]},{\"_type\":\"Parameters.Integer\",\"name\":\"N\",\"constraints\":7},{\"_type\":\"Parameters.Enum\",\"name\":\"E\"},{\"_type\":\"Parameters.Boolean\",\"name\":\"B\",\"constraints\":[{\"_type\":\"AST.Bool\",\"value\":false}]}]}") ≡ Some (Ok (record { params = record { name = codes "A"; kind = ABoolean } ∷ record { name = codes "N"; kind = AnInteger } ∷ record { name = codes "E"; kind = AnEnum } ∷ record { name = codes "B"; kind = ABoolean } ∷ []; constraints = Name (codes "A") ∷ Other ∷ Boolean false ∷ Boolean true ∷ [] }))
unfolding digits serde_json_on_literals
in_order = refl

-- nothing but an empty list of parameters; null stands for no constraints
nothing : features_in (codes "{\"parameters\":[],\"constraints\":null}") ≡ Some (Ok (record { params = []; constraints = [] }))
unfolding digits serde_json_on_literals
nothing = refl

-- the parameters are needed
no_parameters : features_in (codes "{\"constraints\":[]}") ≡ fault_at (codes "") (Missing (codes "parameters"))
unfolding digits serde_json_on_literals
no_parameters = refl

-- null is no array
null_parameters : features_in (codes "{\"parameters\":null}") ≡ fault_at (codes "/parameters") WrongShape
unfolding digits serde_json_on_literals
null_parameters = refl

-- a document is an object
no_document : features_in (codes "[]") ≡ fault_at (codes "") WrongShape
unfolding digits serde_json_on_literals
no_document = refl

-- a parameter is read by its kind first
no_kind : features_in (codes "{\"parameters\":[{}]}") ≡ fault_at (codes "/parameters/0") (Missing (codes "_type"))
unfolding digits serde_json_on_literals
no_kind = refl

-- an unlisted kind
unlisted : features_in (codes "{\"parameters\":[{\"_type\":\"Parameters.Text\",\"name\":\"#\"}]}") ≡ fault_at (codes "/parameters/0") UnlistedKind
unfolding digits serde_json_on_literals
unlisted = refl

-- a parameter has a name
no_name : features_in (codes "{\"parameters\":[{\"_type\":\"Parameters.Enum\"}]}") ≡ fault_at (codes "/parameters/0") (Missing (codes "name"))
unfolding digits serde_json_on_literals
no_name = refl

-- a name outside its limits
bad_name : features_in (codes "{\"parameters\":[{\"_type\":\"Parameters.Boolean\",\"name\":\"A=B\"}]}") ≡ fault_at (codes "/parameters/0/name") BadName
unfolding digits serde_json_on_literals
bad_name = refl

-- a second parameter of one name, of whatever kind, before its constraints are looked at
doubled : features_in (codes "{\"parameters\":[{\"_type\":\"Parameters.Integer\",\"name\":\"A\"},{\"_type\":\"Parameters.Boolean\",\"name\":\"A\",\"constraints\":7}]}") ≡ fault_at (codes "/parameters/1/name") Doubled
unfolding digits serde_json_on_literals
doubled = refl

-- constraints are an array
no_array : features_in (codes "{\"parameters\":[{\"_type\":\"Parameters.Boolean\",\"name\":\"A\",\"constraints\":7}]}") ≡ fault_at (codes "/parameters/0/constraints") WrongShape
unfolding digits serde_json_on_literals
no_array = refl

-- each of them is an object
no_expression : features_in (codes "{\"parameters\":[{\"_type\":\"Parameters.Boolean\",\"name\":\"A\",\"constraints\":[{},true]}]}") ≡ fault_at (codes "/parameters/0/constraints/1") WrongShape
unfolding digits serde_json_on_literals
no_expression = refl

-- those of the document come behind the parameters
own_last : features_in (codes "{\"parameters\":[{\"_type\":\"Parameters.Boolean\",\"name\":\"A\",\"constraints\":[1]}],\"constraints\":7}") ≡ fault_at (codes "/parameters/0/constraints/0") WrongShape
unfolding digits serde_json_on_literals
own_last = refl
