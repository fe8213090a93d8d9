-- What holds of an encodeset, and of what a node says of itself, by their steps.
use Rattle.std.specs.Prelude.{ℕ, ◌+◌, ◌^◌, ◌==◌, List, [], Option, Some, None, unwrap_or, IfSome, codes}
use Rattle.serde_json.specs.Data.{Items}
use Rattle.spec_bits.specs.Item.{Item}
use Rattle.spec_walk.specs.Event.{WrongShape}
use Rattle.spec_walk.specs.Walk.{◌>>>◌}
use Rattle.spec_walk.specs.Spot.{Spot, unless, elements, number_below, needed, optional, exactly, named, each}
use Rattle.spec_walk.proofs.EveryLaws.{Every, every-then, every-next, every-optional}
use Rattle.spec_expressions.specs.Expression.{Expr}
use Rattle.spec_expressions.specs.Reading.{expression}
use Rattle.spec_instructions.specs.Kind.{Kind}
use Rattle.spec_instructions.specs.Encodeset.{named_in, item, encodeset}
use Rattle.spec_instructions.specs.Tree.{Own, bare}
use Rattle.spec_instructions.specs.Walk.{node_name, counted, own}

-- what holds of each list of items holds of an encodeset
pub encodeset-every : (P : List Item → Type 0) (above : ℕ) (here : Spot) → ((list : Spot) (ds : Items) → Every P (each (λ earlier. item (above + named_in earlier) earlier) list.at [] ds)) → Every P (encodeset above here)
encodeset-every P above here h =
    every-next P (exactly (codes "Instruction.Encodeset.Encodeset") here) _ (λ _.
    every-next P (needed (codes "width") here) _ (λ place.
    every-next P (number_below (2 ^ 32) place) _ (λ width.
    every-next P (unless (width == 32) place WrongShape) _ (λ _.
    every-next P (needed (codes "values") here) _ (λ list.
    every-next P (elements list) _ (λ ds. h list ds))))))

unwrapped : (I : List Item → Type 0) (items : Option (List Item)) → I [] → IfSome items I → I (unwrap_or items [])
unwrapped I None none h = none
unwrapped I (Some xs) none h = h

-- what follows from a node's name and its items, whatever its condition is
pub own-every : (N : List ℕ → Type 0) (I : List Item → Type 0) (P : Own → Type 0) (k : Kind) (above : ℕ) (here : Spot) → Every N (node_name here) → I [] → ((inner : Spot) → Every I (encodeset above inner))
    → ((name : List ℕ) (items : List Item) (condition : Option Expr) → N name → I items → P (record (bare k name) { items = items; condition = condition })) → Every P (own k above here)
own-every N I P k above here name_is none items_are h =
    every-then N P (node_name here >>> named here) _ (every-then N N (node_name here) (named here) name_is (λ s is. is)) (λ name is.
    every-next P (counted k here) _ (λ _.
    every-then (λ o. IfSome o I) P (optional (codes "encoding") (encodeset above) here) _ (every-optional I (codes "encoding") (encodeset above) here items_are) (λ items fields.
    every-next P (optional (codes "condition") expression here) _ (λ condition. h name (unwrap_or items []) condition is (unwrapped I items none fields)))))
