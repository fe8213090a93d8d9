-- How an object is read by its shape, a line for each.
use Rattle.std.proofs.Common.{◌≡◌, ◌∙◌, ap, refl, ℕ, Bool, List, [], ◌∷◌, ◌++◌, length, codes}
use Rattle.serde_json.specs.Data.{Items, no_items, item}
use Rattle.spec_walk.specs.Pointer.{element}
use Rattle.spec_walk.specs.Event.{WrongShape}
use Rattle.spec_walk.specs.Walk.{Walk, Done, ◌>>>◌}
use Rattle.spec_walk.specs.Spot.{Spot, spot, unless, needed, elements, each}
use Rattle.spec_walk.specs.Descend.{inside_of, at_spot}
use Rattle.spec_walk.proofs.DescendLaws.{then-same}
use Rattle.spec_expressions.specs.Expression.{Expr, Slice}
use Rattle.spec_expressions.specs.Shape.{Shape, Plain, AName, ANot, ABinary, ACall, ASet, AJoin, AnIndex, ASlice, shape_of}
use Rattle.spec_expressions.specs.Reading.{Its, counted, sole, argument, formed, reader, expression}
use Rattle.spec_expressions.specs.Laws.{HasShape, part, argument_by, ShapesAreRead}
use Rattle.spec_expressions.proofs.FormLaws.{expression-formed, member-formed}

-- whether it is an object decides
abbrev by_object : Spot → Walk Expr → Bool → Walk Expr
by_object here behind is = unless is here WrongShape >>> λ _. behind

of_shape : (here : Spot) (shape : Shape) → HasShape here shape → expression here ≡ formed here (inside_of reader here) shape
of_shape here shape has =
    expression-formed here ∙ ap (by_object here (formed here (inside_of reader here) (shape_of here.value))) has.object
    ∙ ap (formed here (inside_of reader here)) has.is

-- elements that are read alike
each-same : {A : Type 0} (read other : List A → Spot → Walk A) → ((xs : List A) (here : Spot) → read xs here ≡ other xs here) → (at : List ℕ) (before : List A) (ds : Items) → each read at before ds ≡ each other at before ds
each-same read other same at before no_items = refl
each-same read other same at before (item d ds) =
    ap (λ w. w >>> λ x. each read at (before ++ x ∷ []) ds) (same before (spot (element at (length before)) d))
    ∙ then-same (other before (spot (element at (length before)) d)) (λ x. each read at (before ++ x ∷ []) ds) (λ x. each other at (before ++ x ∷ []) ds) (λ x. each-same read other same at (before ++ x ∷ []) ds)

argument-is : (here : Spot) (key : List ℕ) → argument (Its key) (inside_of reader here) ≡ argument_by (part key) here
argument-is here key =
    ap (λ (w : Walk (List Expr)). w >>> λ es. Done (sole es))
    (then-same (needed (codes "arguments") here) (λ list. elements list >>> each (λ _. at_spot reader (Its key)) list.at []) (λ list. elements list >>> each (λ _. part key) list.at [])
    (λ list. then-same (elements list) (each (λ _. at_spot reader (Its key)) list.at []) (each (λ _. part key) list.at []) (λ ds. each-same (λ _. at_spot reader (Its key)) (λ _. part key) (λ _ place. member-formed key place) list.at [] ds)))

slice-is : (here : Spot) → formed here (inside_of reader here) ASlice
    ≡ part (codes "var") here >>> λ e. argument_by (part (codes "left")) here >>> λ high. argument_by (part (codes "right")) here >>> λ low. counted here (Slice e high low)
slice-is here =
    then-same (part (codes "var") here) _ _ (λ e.
    ap (λ w. w >>> λ high. argument (Its (codes "right")) (inside_of reader here) >>> λ low. counted here (Slice e high low)) (argument-is here (codes "left"))
    ∙ then-same (argument_by (part (codes "left")) here) _ _ (λ high. ap (λ w. w >>> λ low. counted here (Slice e high low)) (argument-is here (codes "right"))))

pub each_shape_is_read : ShapesAreRead
each_shape_is_read = record {
  no_object = λ here no. expression-formed here ∙ ap (by_object here (formed here (inside_of reader here) (shape_of here.value))) no;
  plain = λ here e has. of_shape here (Plain e) has;
  name = λ here s has. of_shape here (AName s) has;
  negated = λ here has. of_shape here ANot has;
  binary = λ here op has. of_shape here (ABinary op) has;
  call = λ here s has. of_shape here (ACall s) has;
  set = λ here has. of_shape here ASet has;
  join = λ here has. of_shape here AJoin has;
  index = λ here has. of_shape here AnIndex has;
  slice = λ here has. of_shape here ASlice has ∙ slice-is here;
}
