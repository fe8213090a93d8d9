-- Where the limit on names is passed.
use Rattle.std.proofs.Common.{◌≡◌, ◌∙◌, refl, ap, ℕ, List, Err, Ok, codes}
use Rattle.serde_json.specs.Data.{Data, null, boolean, number, string, array, object}
use Rattle.spec_walk.specs.Event.{TooMany}
use Rattle.spec_walk.specs.Limits.{Counts, named, ◌>>=◌}
use Rattle.spec_walk.specs.Walk.{Walk, gives, ◌>>>◌}
use Rattle.spec_walk.specs.Spot.{Spot, spot, needed}
use Rattle.spec_walk.specs.Spot as spots
use Rattle.spec_walk.specs.Descend.{elements_at, inside_of}
use Rattle.spec_walk.proofs.WalkLaws.{gives-next}
use Rattle.spec_expressions.specs.Expression.{Expr, Name, Call, Named, function_named, exprs_of}
use Rattle.spec_expressions.specs.Shape.{AName, ACall, shape_of}
use Rattle.spec_expressions.specs.Reading.{Itself, counted, function_at, formed, reader, expression}
use Rattle.spec_expressions.specs.Laws.{IsOneTooMany, NamesAreLimited}
use Rattle.spec_expressions.proofs.FormLaws.{expression-formed}

named-over : (at s : List ℕ) (c : Counts) → IsOneTooMany s c → named at s c ≡ Err (record { at = at; why = TooMany })
named-over at s c over = rw (over.further, over.full) refl

-- a walk that begins with a name too many ends there
over-then : {A : Type 0} (here : Spot) (s : List ℕ) (c : Counts) (next : List ℕ → Walk A) → IsOneTooMany s c → gives (spots.named here s >>> next) c ≡ Err (record { at = here.at; why = TooMany })
over-then here s c next over = ap (λ r. r >>= gives (next s)) (named-over here.at s c over)

name-over : (at : List ℕ) (d : Data) (s : List ℕ) (c : Counts) → shape_of d ≡ AName s → IsOneTooMany s c → gives (expression (spot at d)) c ≡ Err (record { at = at; why = TooMany })
name-over at (object ms) s c shape over =
    let here : Spot = spot at (object ms) in
    ap (λ w. gives w c) (expression-formed here)
    ∙ ap (λ sh. gives (formed here (inside_of reader here) sh) c) shape
    ∙ over-then here s c (λ _. counted here (Name s)) over
name-over at null s c shape over = absurd cc
name-over at (boolean b) s c shape over = absurd cc
name-over at (number n) s c shape over = absurd cc
name-over at (string t) s c shape over = absurd cc
name-over at (array ds) s c shape over = absurd cc

call-over : (at : List ℕ) (d : Data) (s : List ℕ) (es : List Expr) (before c : Counts) → shape_of d ≡ ACall s → function_named s ≡ Named s
    → gives (needed (codes "arguments") (spot at d) >>> elements_at reader Itself) before ≡ Ok (es, c) → IsOneTooMany s c
    → gives (expression (spot at d)) before ≡ Err (record { at = at; why = TooMany })
call-over at (object ms) s es before c shape other arguments over =
    let here : Spot = spot at (object ms) in
    ap (λ w. gives w before) (expression-formed here)
    ∙ ap (λ sh. gives (formed here (inside_of reader here) sh) before) shape
    ∙ gives-next (needed (codes "arguments") here >>> elements_at reader Itself) (λ es. function_at here (function_named s) >>> λ f. counted here (Call f (exprs_of es))) before c es arguments
    ∙ ap (λ f. gives (function_at here f >>> λ f. counted here (Call f (exprs_of es))) c) other
    ∙ over-then here s c (λ _. counted here (Call (Named s) (exprs_of es))) over
call-over at null s es before c shape other arguments over = absurd cc
call-over at (boolean b) s es before c shape other arguments over = absurd cc
call-over at (number n) s es before c shape other arguments over = absurd cc
call-over at (string t) s es before c shape other arguments over = absurd cc
call-over at (array ds) s es before c shape other arguments over = absurd cc

pub names_are_limited : NamesAreLimited
names_are_limited = record { name = λ here. name-over here.at here.value; call = λ here. call-over here.at here.value }
