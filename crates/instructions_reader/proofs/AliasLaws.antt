-- Laws of aliases that are read.
use Rattle.std.proofs.Common.{◌≡◌, ◌∙◌, ap, refl, ℕ, ◌<◌, List, [], ◌∷◌, ◌++◌, length, length-append, Option, Some, None, Result, codes, arith}
use Rattle.spec_walk.specs.Spot.{Spot, named, optional}
use Rattle.spec_walk.specs.Walk.{◌>>>◌}
use Rattle.spec_walk.proofs.EveryLaws.{Every, every-gives, every-next}
use Rattle.spec_expressions.specs.Expression.{Expr}
use Rattle.spec_expressions.specs.Reading.{expression}
use Rattle.spec_instructions.specs.Kind.{Kind, Alias}
use Rattle.spec_instructions.specs.Encodeset.{encodeset}
use Rattle.spec_instructions.specs.Tree.{Own, node, no_nodes}
use Rattle.spec_instructions.specs.Walk.{node_name, counted, own, alias_of}
use Rattle.mrs_arena.specs.Placed.{Placed, preorder}
use Rattle.mrs_arena.proofs.LastOneLaws.{at_last-push}
use Rattle.mrs_walk.specs.Gives.{Ends, Puts}
use Rattle.mrs_walk.specs.declared.fault.ReadFault.{ReadFault}
use Rattle.mrs_walk.proofs.AnswerLaws.{Puts-then, Puts-last}
use Rattle.schema_draft.specs.Drafted.{Drafted, counts, named_at, with_preferred}

-- before the preference is read there is none
own_unpreferred : (k : Kind) (above : ℕ) (here : Spot) → Every (λ o. o.preferred ≡ None) (own k above here)
own_unpreferred k above here =
    every-next _ (node_name here >>> named here) _ (λ name.
    every-next _ (counted k here) _ (λ _.
    every-next _ (optional (codes "encoding") (encodeset above) here) _ (λ items.
    every-next _ (optional (codes "condition") expression here) _ (λ condition. refl))))

-- a preference of the last of several nodes
with_preferred-last : (preferred : Option Expr) (nodes : List Placed) (parent : Option ℕ) (o : Own) → o.preferred ≡ None
    → with_preferred preferred (nodes ++ record { parent = parent; own = o } ∷ []) ≡ nodes ++ record { parent = parent; own = record o { preferred = preferred } } ∷ []
with_preferred-last None nodes parent o none = ap (λ p. nodes ++ record { parent = parent; own = record o { preferred = p } } ∷ []) none
with_preferred-last (Some e) nodes parent o none = at_last-push _ nodes (record { parent = parent; own = o })

-- the node of an alias that is put below its leaf
abbrev IsPutBelow : Drafted → Drafted → ℕ → ℕ → Own → Type 0
IsPutBelow old now p n o = (n ≡ length old.nodes) × (now.nodes ≡ old.nodes ++ record { parent = Some p; own = o } ∷ [])

pub put_some : (old now : Drafted) (p n : ℕ) (o : Own) → IsPutBelow old now p n o → 0 < length now.nodes
put_some old now p n o is = omega (arith, ap length is.1, length-append old.nodes (record { parent = Some p; own = o } ∷ []))

pub alias_returns : {T : Type 0} (r : Result T ReadFault) (old mid new : Drafted) (p n : ℕ) (here : Spot)
    → (e : Ends (own Alias (named_at old.nodes p) here) (counts old) (counts mid) (IsPutBelow old mid p n))
    → Puts r (optional (codes "preferred") expression here) (counts mid) (counts new) (λ preferred _. new.nodes ≡ with_preferred preferred mid.nodes)
    → Puts r (alias_of (named_at old.nodes p) here) (counts old) (counts new) (λ t _. new.nodes ≡ old.nodes ++ preorder (Some p) (length old.nodes) t)
alias_returns r old mid new p n here e h =
    let none = every-gives (λ o. o.preferred ≡ None) (own Alias (named_at old.nodes p) here) (counts old) (counts mid) e.value (own_unpreferred Alias (named_at old.nodes p) here) e.walked in
    Puts-then r (own Alias (named_at old.nodes p) here) _ e.value (counts old) (counts mid) (counts new) _ e.walked
    (Puts-last r (optional (codes "preferred") expression here) (λ preferred. node (record e.value { preferred = preferred }) no_nodes) (counts mid) (counts new) _ _
    (λ preferred x is. is ∙ ap (with_preferred preferred) e.stands.1 ∙ with_preferred-last preferred old.nodes (Some p) e.value none) h)
