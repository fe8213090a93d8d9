-- The walk of an expression in the words of its readers: parts are members of its own object.
use Rattle.std.proofs.Common.{◌≡◌, ◌∙◌, refl, ap, List, codes}
use Rattle.std.specs.Prelude.{ℕ}
use Rattle.spec_walk.specs.Walk.{Walk, Done, ◌>>>◌}
use Rattle.spec_walk.specs.Spot.{Spot, needed, an_object}
use Rattle.spec_walk.specs.Descend.{Inside, at_spot, inside_of, IsInside}
use Rattle.spec_walk.proofs.DescendLaws.{then-same, descends}
use Rattle.spec_expressions.specs.Expression.{Expr, Not, Binary, Call, Set, Join, Slice, function_named, exprs_of}
use Rattle.spec_expressions.specs.Shape.{Shape, Plain, AName, ANot, ABinary, ACall, ASet, AJoin, AnIndex, ASlice, shape_of}
use Rattle.spec_expressions.specs.Reading.{Wanted, Itself, Its, counted, function_at, sole, argument, formed, reader, expression}

argument-inside : (here : Spot) (inside : Inside Wanted Expr) (wanted : Wanted) → IsInside reader here inside → argument wanted inside ≡ argument wanted (inside_of reader here)
argument-inside here inside wanted is = ap (λ (w : Walk (List Expr)). w >>> λ es. Done (sole es)) (is.parts wanted (codes "arguments"))

-- two walks that begin alike and go on alike
both : {A B : Type 0} (v w : Walk A) (f g : A → Walk B) → v ≡ w → ((x : A) → f x ≡ g x) → v >>> f ≡ w >>> g
both v w f g is goes = ap (λ u. u >>> f) is ∙ then-same w f g goes

formed-inside : (here : Spot) (inside : Inside Wanted Expr) (s : Shape) → IsInside reader here inside → formed here inside s ≡ formed here (inside_of reader here) s
formed-inside here inside (Plain e) is = refl
formed-inside here inside (AName s) is = refl
formed-inside here inside ANot is = both _ _ (λ e. counted here (Not e)) _ (is.part Itself (codes "expr")) (λ e. refl)
formed-inside here inside (ABinary op) is = both _ _ _ _ (is.part Itself (codes "left")) (λ l. both _ _ (λ r. counted here (Binary op l r)) _ (is.part Itself (codes "right")) (λ r. refl))
formed-inside here inside (ACall s) is = both _ _ (λ es. function_at here (function_named s) >>> λ f. counted here (Call f (exprs_of es))) _ (is.parts Itself (codes "arguments")) (λ es. refl)
formed-inside here inside ASet is = both _ _ (λ es. counted here (Set (exprs_of es))) _ (is.parts Itself (codes "values")) (λ es. refl)
formed-inside here inside AJoin is = both _ _ (λ es. counted here (Join (exprs_of es))) _ (is.parts Itself (codes "values")) (λ es. refl)
formed-inside here inside AnIndex is = both _ _ _ _ (is.part Itself (codes "var")) (λ e. both _ _ (λ bit. counted here (Slice e bit bit)) _ (argument-inside here inside Itself is) (λ bit. refl))
formed-inside here inside ASlice is =
    both _ _ _ _ (is.part Itself (codes "var"))
    (λ e. both _ _ _ _ (argument-inside here inside (Its (codes "left")) is)
    (λ high. both _ _ (λ low. counted here (Slice e high low)) _ (argument-inside here inside (Its (codes "right")) is) (λ low. refl)))

-- an expression is formed by the shape of its object, from the members of that object
pub expression-formed : (here : Spot) → expression here ≡ an_object here >>> λ _. formed here (inside_of reader here) (shape_of here.value)
expression-formed here =
    let d = descends reader Itself here.at here.value in
    d.walk ∙ then-same (an_object here) (λ _. formed here d.inside (shape_of here.value)) (λ _. formed here (inside_of reader here) (shape_of here.value)) (λ _. formed-inside here d.inside (shape_of here.value) d.is)

-- and a member of a value is an expression there
pub member-formed : (key : List ℕ) (here : Spot) → at_spot reader (Its key) here ≡ needed key here >>> expression
member-formed key here =
    let d = descends reader (Its key) here.at here.value in
    d.walk ∙ d.is.part Itself key
