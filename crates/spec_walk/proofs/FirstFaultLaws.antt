-- What a walk answers by its first fault is what it gives event by event.
use Rattle.std.proofs.Common.{◌≡◌, ◌∙◌, sym, ap, refl, ℕ, ◌+◌, Bool, true, false, cond, nat_le, List, [], ◌∷◌, ◌++◌, length, append_assoc, append-nil, Option, Some, None, Ok, Err, arith}
use Rattle.std.specs.Option.{option_or}
use Rattle.std.proofs.lemmas.List.Sums.{sum_by-append}
use Rattle.spec_walk.specs.Event.{Thing, ANode, ALeaf, AnAlias, AnExpression, Fault, Event, Name, OneMore, Wrong}
use Rattle.spec_walk.specs.Limits.{Counts, name_limit, node_limit, leaf_limit, alias_limit, expression_limit, after, ◌>>=◌, judged}
use Rattle.spec_walk.specs.Walk.{Walk, events, gives}
use Rattle.spec_walk.specs.FirstFault.{is_one_more, count_of, is_held, with_name, names_behind, behind, too_many, fault_of, first_fault, end_of, unless_fault, answers}
use Rattle.spec_walk.proofs.WalkLaws.{gives-judged}

-- ---- one more event

names-one : (held : List (List ℕ)) (es : List Event) (e : Event) → names_behind held (es ++ e ∷ []) ≡ names_behind (names_behind held es) (e ∷ [])
names-one held [] e = refl
names-one held (Name at s ∷ es) e = names-one (with_name s held) es e
names-one held (OneMore thing at ∷ es) e = names-one held es e
names-one held (Wrong f ∷ es) e = names-one held es e

count-one : (n : ℕ) (thing : Thing) (es : List Event) (e : Event) → n + count_of thing (es ++ e ∷ []) ≡ n + count_of thing es + count_of thing (e ∷ [])
count-one n thing es e = omega (arith, sum_by-append (λ x. cond (is_one_more thing x) 1 0) es (e ∷ []))

-- counts are the same where each part is
same : {c d : Counts} → c.held ≡ d.held → c.nodes ≡ d.nodes → c.leaves ≡ d.leaves → c.aliases ≡ d.aliases → c.expressions ≡ d.expressions → c ≡ d
same {c} {d} held nodes leaves aliases expressions =
    ap (λ h. record { held = h; nodes = c.nodes; leaves = c.leaves; aliases = c.aliases; expressions = c.expressions }) held
    ∙ ap (λ n. record { held = d.held; nodes = n; leaves = c.leaves; aliases = c.aliases; expressions = c.expressions }) nodes
    ∙ ap (λ n. record { held = d.held; nodes = d.nodes; leaves = n; aliases = c.aliases; expressions = c.expressions }) leaves
    ∙ ap (λ n. record { held = d.held; nodes = d.nodes; leaves = d.leaves; aliases = n; expressions = c.expressions }) aliases
    ∙ ap (λ n. record { held = d.held; nodes = d.nodes; leaves = d.leaves; aliases = d.aliases; expressions = n }) expressions

behind-none : (c : Counts) → behind c [] ≡ c
behind-none c = same refl (omega arith) (omega arith) (omega arith) (omega arith)

behind-one : (c : Counts) (es : List Event) (e : Event) → behind c (es ++ e ∷ []) ≡ behind (behind c es) (e ∷ [])
behind-one c es e = same (names-one c.held es e) (count-one c.nodes ANode es e) (count-one c.leaves ALeaf es e) (count-one c.aliases AnAlias es e) (count-one c.expressions AnExpression es e)

-- ---- an event behind those before it

limited : (full : Bool) (f : Fault) (next other : Counts) → next ≡ other → cond full (Err f) (Ok next) ≡ unless_fault (cond full (Some f) None) (Ok other)
limited true f next other is = refl
limited false f next other is = ap Ok is

pub after-is : (c : Counts) (e : Event) → after e c ≡ unless_fault (fault_of c e) (Ok (behind c (e ∷ [])))
after-is c (Wrong f) = refl
after-is c (OneMore ANode at) = limited (nat_le node_limit c.nodes) (too_many at) _ _ (same refl refl (omega arith) (omega arith) (omega arith))
after-is c (OneMore ALeaf at) = limited (nat_le leaf_limit c.leaves) (too_many at) _ _ (same refl (omega arith) refl (omega arith) (omega arith))
after-is c (OneMore AnAlias at) = limited (nat_le alias_limit c.aliases) (too_many at) _ _ (same refl (omega arith) (omega arith) refl (omega arith))
after-is c (OneMore AnExpression at) = limited (nat_le expression_limit c.expressions) (too_many at) _ _ (same refl (omega arith) (omega arith) (omega arith) refl)
after-is c (Name at s) = go (is_held s c.held) (nat_le name_limit (length c.held))
  where
    -- what is held and counted behind a name
    then : List (List ℕ) → Counts
    then held = record { held = held; nodes = c.nodes + 0; leaves = c.leaves + 0; aliases = c.aliases + 0; expressions = c.expressions + 0 }

    go : (old full : Bool) → cond old (Ok c) (cond full (Err (too_many at)) (Ok (record c { held = c.held ++ s ∷ [] })))
        ≡ unless_fault (cond old None (cond full (Some (too_many at)) None)) (Ok (then (cond old c.held (c.held ++ s ∷ []))))
    go true full = ap Ok (same refl (omega arith) (omega arith) (omega arith) (omega arith))
    go false full = limited full (too_many at) _ _ (same refl (omega arith) (omega arith) (omega arith) (omega arith))

-- ---- all events

judged-first : (c : Counts) (before es : List Event) → judged es (behind c before) ≡ unless_fault (first_fault c before es) (Ok (behind c (before ++ es)))
judged-first c before [] = ap (λ xs. Ok (behind c xs)) (sym (append-nil before))
judged-first c before (e ∷ es) =
    ap (λ r. r >>= judged es) (after-is (behind c before) e) ∙ go (judged-first c (before ++ e ∷ []) es) (fault_of (behind c before) e)
  where
    go : judged es (behind c (before ++ e ∷ [])) ≡ unless_fault (first_fault c (before ++ e ∷ []) es) (Ok (behind c (before ++ e ∷ [] ++ es))) → (o : Option Fault)
        → unless_fault o (Ok (behind (behind c before) (e ∷ []))) >>= judged es ≡ unless_fault (option_or o (first_fault c (before ++ e ∷ []) es)) (Ok (behind c (before ++ e ∷ es)))
    go later (Some f) = refl
    go later None =
        ap (judged es) (sym (behind-one c before e)) ∙ later
        ∙ ap (λ xs. unless_fault (first_fault c (before ++ e ∷ []) es) (Ok (behind c xs))) (append_assoc before (e ∷ []) es)

-- the counts behind all events, or the first fault
pub judged-is : (es : List Event) (c : Counts) → judged es c ≡ unless_fault (first_fault c [] es) (Ok (behind c es))
judged-is es c = ap (judged es) (sym (behind-none c)) ∙ judged-first c [] es

-- so a walk answers what it gives event by event
pub answers-gives : {A : Type 0} (w : Walk A) (c : Counts) → answers w c ≡ gives w c
answers-gives {A} w c = sym (gives-judged w c ∙ ap (λ r. r >>= end_of w) (judged-is (events w) c) ∙ go (first_fault c [] (events w)))
  where
    go : (o : Option Fault) → unless_fault o (Ok (behind c (events w))) >>= end_of w ≡ unless_fault o (end_of w (behind c (events w)))
    go (Some f) = refl
    go None = refl
