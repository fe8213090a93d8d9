-- Arrays of several elements.
use Rattle.std.proofs.Common.{◌≡◌, refl, ◌≤◌, List, [], ◌∷◌, length, None, arith}
use Rattle.serde_json.specs.Data.{array}
use Rattle.serde_json.specs.View.{items_view}
use Rattle.serde_json.specs.declared.value.Value.{Value}
use Rattle.spec_expressions.specs.Shape.{the_one}

pub the_one-several : (values : List Value) → 2 ≤ length values → the_one (array (items_view values)) ≡ None
the_one-several [] several = absurd (omega arith)
the_one-several (a ∷ []) several = absurd (omega arith)
the_one-several (a ∷ b ∷ values) several = refl
