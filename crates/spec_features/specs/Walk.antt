-- A Features document as a walk, whose value is its parameters and constraints.
use Rattle.std.specs.Prelude.{ℕ, List, [], ◌++◌, not, bytes_eq, codes, map, flat_map, length, nat_lt, unwrap_or}
use Rattle.std.specs.List.{list_any}
use Rattle.spec_walk.specs.Event.{BadName, Doubled, TooMany}
use Rattle.spec_walk.specs.Name.{is_name}
use Rattle.spec_walk.specs.Walk.{Walk, Done, ◌>>>◌}
use Rattle.spec_walk.specs.Spot.{Spot, unless, an_object, elements, text, needed, optional, kind, named, each}
use Rattle.spec_expressions.specs.Expression.{Expr}
use Rattle.spec_expressions.specs.Reading.{expression}
use Rattle.spec_features.specs.Features.{ParamKind, ABoolean, AnInteger, AnEnum, Param, Features, param_limit}
use Rattle.spec_features.specs.Kind.{kind_named}

-- the expressions of the member `constraints`; there are none where it is absent or null
abbrev pub constraints : Spot → Walk (List Expr)
constraints here = optional (codes "constraints") (λ list. elements list >>> each (λ before. expression) list.at []) here >>> λ found. Done (unwrap_or found [])

-- those of a parameter: of a boolean one alone they are read
abbrev pub constraints_of : ParamKind → Spot → Walk (List Expr)
constraints_of ABoolean here = constraints here
constraints_of AnInteger here = Done []
constraints_of AnEnum here = Done []

-- a parameter and its constraints
abbrev pub Constrained : Type 0
Constrained = Param × List Expr

-- the name of a parameter, which none of those before it has
abbrev pub param_name : List Constrained → Spot → Walk (List ℕ)
param_name before here =
    needed (codes "name") here >>> λ place.
    text place >>> λ s.
    unless (is_name s) place BadName >>> λ _.
    unless (not (list_any (λ (p : Constrained). bytes_eq p.0.name s) before)) place Doubled >>> λ _.
    Done s

-- a parameter behind those before it. The limit on parameters is judged at its object, behind the limit on names
abbrev pub param : List Constrained → Spot → Walk Constrained
param before here =
    kind kind_named here >>> λ k.
    param_name before here >>> named here >>> λ name.
    unless (nat_lt (length before) param_limit) here TooMany >>> λ _.
    constraints_of k here >>> λ own.
    Done (record { name = name; kind = k }, own)

-- the document. The constraints are those of the parameters, in order, and then its own
abbrev pub features : Spot → Walk Features
features here =
    an_object here >>> λ _.
    needed (codes "parameters") here >>> λ list.
    elements list >>> each param list.at [] >>> λ found.
    constraints here >>> λ own.
    Done (record { params = map (λ p. p.0) found; constraints = flat_map (λ p. p.1) found ++ own })
