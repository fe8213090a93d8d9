-- Laws of what a node says of itself.
use Rattle.std.proofs.Common.{◌≡◌, ◌∙◌, sym, ap, refl, ℕ, ◌+◌, ◌<◌, List, [], ◌∷◌, ◌++◌, length, add-zero, Option, Some, None, unwrap_or, Ok, codes, arith}
use Rattle.spec_bits.specs.Item.{Item}
use Rattle.spec_walk.specs.Limits.{Counts}
use Rattle.spec_expressions.specs.Expression.{Expr}
use Rattle.spec_expressions.specs.Reading.{expression}
use Rattle.spec_instructions.specs.Kind.{Kind}
use Rattle.spec_instructions.specs.Tree.{Own, bare}
use Rattle.spec_walk.specs.Walk.{Walk, Done, ◌>>>◌, gives}
use Rattle.spec_walk.specs.Spot.{Spot, named, optional}
use Rattle.spec_walk.proofs.WalkLaws.{gives-next}
use Rattle.spec_instructions.specs.Encodeset.{encodeset, named_in}
use Rattle.spec_instructions.specs.Walk.{node_name, counted, own}
use Rattle.mrs_arena.specs.Paths.{IsPlace}
use Rattle.mrs_arena.specs.Placed.{Placed, text_of}
use Rattle.mrs_arena.proofs.LastOneLaws.{at_last-push}
use Rattle.mrs_walk.specs.Gives.{Fails, Ends}
use Rattle.mrs_walk.specs.declared.fault.ReadFault.{ReadFault}
use Rattle.mrs_walk.proofs.AnswerLaws.{Fails-then, Fails-same}
use Rattle.schema_draft.specs.Drafted.{Drafted, counts, parents, named_at, last_named, with_items, with_condition}
use Rattle.instructions_reader.specs.Nodes.{named_above}
use Rattle.schema_draft.proofs.PlacedLaws.{place_within, named_new, named_root, last_number, with_items-last}

parents-empty : (nodes : List Placed) → parents nodes ≡ [] → nodes ≡ []
parents-empty [] h = refl
parents-empty (p ∷ nodes) h = absurd (cc)

-- the named items on the path of a node that is put
pub named_at-new : (nodes : List Placed) (parent : Option ℕ) (own : Own) → IsPlace (parents nodes) parent → named_at (nodes ++ record { parent = parent; own = own } ∷ []) (length nodes) ≡ named_above nodes parent + named_in own.items
named_at-new nodes None own h =
    let none = parents-empty nodes h in
    let same : named_in own.items ≡ 0 + named_in own.items = omega arith in
    ap (λ ns. named_at (ns ++ record { parent = None; own = own } ∷ []) (length ns)) none ∙ named_root own ∙ same
named_at-new nodes (Some p) own h =
    let new = named_new nodes own p (place_within nodes p h) in
    omega arith

last_named-new : (nodes : List Placed) (parent : Option ℕ) (own : Own) → IsPlace (parents nodes) parent → last_named (nodes ++ record { parent = parent; own = own } ∷ []) ≡ named_above nodes parent + named_in own.items
last_named-new nodes parent own h = ap (named_at (nodes ++ record { parent = parent; own = own } ∷ [])) (last_number nodes (record { parent = parent; own = own })) ∙ named_at-new nodes parent own h

-- ---- the walk, behind the node's name and count

-- a node that says no more than its kind, its name, its items and its condition
abbrev with_own : Kind → List ℕ → List Item → Option Expr → Own
with_own k name items condition = record (bare k name) { items = items; condition = condition }

abbrev pub conditional : Spot → Walk (Option Expr)
conditional here = optional (codes "condition") expression here

abbrev ended : Kind → List ℕ → Spot → Option (List Item) → Walk Own
ended k name here items = conditional here >>> λ condition. Done (with_own k name (unwrap_or items []) condition)

abbrev encoded : Kind → ℕ → Spot → List ℕ → Walk Own
encoded k above here name = optional (codes "encoding") (encodeset above) here >>> ended k name here

-- a node is put: its name is held, and it is counted
pub record IsNamed (here : Spot) (k : Kind) (text name : List ℕ) (c d e : Counts) : Type 0 where
  pub text_is : node_name here ≡ Done text
  pub named : gives (named here text) c ≡ Ok (name, d)
  pub counted : gives (counted k here) d ≡ Ok (tt, e)

own_behind : {here : Spot} {k : Kind} {text name : List ℕ} {c d e : Counts} → IsNamed here k text name c d e → (above : ℕ) → gives (own k above here) c ≡ gives (encoded k above here name) e
own_behind {here} {k} {text} {name} {c} {d} {e} n above =
    ap (λ (w : Walk (List ℕ)). gives (w >>> named here >>> λ name. counted k here >>> λ _. encoded k above here name) c) n.text_is
    ∙ gives-next (named here text) (λ name. counted k here >>> λ _. encoded k above here name) c d name n.named
    ∙ gives-next (counted k here) (λ _. encoded k above here name) d e tt n.counted

own_fails-encoding : {here : Spot} {k : Kind} {text name : List ℕ} {c d e : Counts} → IsNamed here k text name c d e → (above : ℕ) (f : ReadFault) → Fails f (gives (optional (codes "encoding") (encodeset above) here) e) → Fails f (gives (own k above here) c)
own_fails-encoding {here} {k} {text} {name} {c} {d} {e} n above f h = Fails-same f _ _ (own_behind n above) (Fails-then f (optional (codes "encoding") (encodeset above) here) (ended k name here) e h)

own_last : {here : Spot} {k : Kind} {text name : List ℕ} {c d e : Counts} → IsNamed here k text name c d e → (above : ℕ) (items : Option (List Item)) (after : Counts) → gives (optional (codes "encoding") (encodeset above) here) e ≡ Ok (items, after) → gives (own k above here) c ≡ gives (ended k name here items) after
own_last {here} {k} {text} {name} {c} {d} {e} n above items after h = own_behind n above ∙ gives-next (optional (codes "encoding") (encodeset above) here) (ended k name here) e after items h

own_fails-condition : {here : Spot} {k : Kind} {text name : List ℕ} {c d e : Counts} → IsNamed here k text name c d e → (above : ℕ) (items : Option (List Item)) (after : Counts) → gives (optional (codes "encoding") (encodeset above) here) e ≡ Ok (items, after)
    → (f : ReadFault) → Fails f (gives (conditional here) after) → Fails f (gives (own k above here) c)
own_fails-condition {here} {k} {text} {name} n above items after h f fails = Fails-same f _ _ (own_last n above items after h) (Fails-then f (conditional here) (λ condition. Done (with_own k name (unwrap_or items []) condition)) after fails)

own_returns : {here : Spot} {k : Kind} {text name : List ℕ} {c d e : Counts} → IsNamed here k text name c d e → (above : ℕ) (items : Option (List Item)) (after : Counts) → gives (optional (codes "encoding") (encodeset above) here) e ≡ Ok (items, after)
    → (condition : Option Expr) (last : Counts) → gives (conditional here) after ≡ Ok (condition, last) → (P : Own → Type 0) → P (with_own k name (unwrap_or items []) condition) → Ends (own k above here) c last P
own_returns {here} {k} {text} {name} n above items after h condition last is P p = record {
  value = with_own k name (unwrap_or items []) condition;
  walked = own_last n above items after h ∙ gives-next (conditional here) (λ condition. Done (with_own k name (unwrap_or items []) condition)) after last condition is;
  stands = p;
}

-- ---- the node

abbrev pub bare_node : Option ℕ → Kind → List ℕ → Placed
bare_node parent kind name = record { parent = parent; own = bare kind name }

-- a node without items is put behind others
pub record IsBare (old now : List Placed) (parent : Option ℕ) (kind : Kind) (name : List ℕ) : Type 0 where
  pub place : IsPlace (parents old) parent
  pub nodes : now ≡ old ++ bare_node parent kind name ∷ []

bare-named : {old now : List Placed} {parent : Option ℕ} {kind : Kind} {name : List ℕ} → IsBare old now parent kind name → last_named now ≡ named_above old parent
bare-named {old} {now} {parent} {kind} {name} b = ap last_named b.nodes ∙ last_named-new old parent (bare kind name) b.place ∙ add-zero (named_above old parent)

bare-put : {old now : List Placed} {parent : Option ℕ} {kind : Kind} {name : List ℕ} → IsBare old now parent kind name → (items : List Item) (new : List Placed) → new ≡ with_items items now → new ≡ old ++ record { parent = parent; own = with_own kind name items None } ∷ []
bare-put {old} {now} {parent} {kind} {name} b items new is = is ∙ ap (with_items items) b.nodes ∙ with_items-last items old (bare_node parent kind name)

-- a node that is named and put, from the answers of a draft
pub record IsPut (here : Spot) (k : Kind) (parent : Option ℕ) (old now : Drafted) (text name : List ℕ) (mid : Counts) : Type 0 where
  pub named : IsNamed here k text name (counts old) mid (counts now)
  pub bare : IsBare old.nodes now.nodes parent k name

pub is_put : {here : Spot} {k : Kind} {parent : Option ℕ} {text : List ℕ} (old mid now : Drafted) (id : ℕ) → IsPlace (parents old.nodes) parent → node_name here ≡ Done text
    → (n : Ends (named here text) (counts old) (counts mid) (λ t. (id < length mid.names) × (text_of mid.names id ≡ t))) → mid.nodes ≡ old.nodes → (number : ℕ)
    → Ends (counted k here) (counts mid) (counts now) (λ _. (number ≡ length mid.nodes) × (now.nodes ≡ mid.nodes ++ bare_node parent k (text_of mid.names id) ∷ [])) → IsPut here k parent old now text n.value (counts mid)
is_put {here} {k} {parent} old mid now id place text_is n same number e = record {
  named = record { text_is = text_is; named = n.walked; counted = e.walked };
  bare = record { place = place; nodes = e.stands.1 ∙ ap (λ ns. ns ++ bare_node parent k (text_of mid.names id) ∷ []) same ∙ ap (λ name. old.nodes ++ bare_node parent k name ∷ []) n.stands.1 };
}

pub put_fails-encoding : {here : Spot} {k : Kind} {parent : Option ℕ} {old now : Drafted} {text name : List ℕ} {mid : Counts} → IsPut here k parent old now text name mid → (f : ReadFault) → Fails f (gives (optional (codes "encoding") (encodeset (last_named now.nodes)) here) (counts now)) → Fails f (gives (own k (named_above old.nodes parent) here) (counts old))
put_fails-encoding {here} {k} {parent} {old} {now} p f h = own_fails-encoding p.named (named_above old.nodes parent) f (Fails-same f _ _ (ap (λ n. gives (optional (codes "encoding") (encodeset n) here) (counts now)) (sym (bare-named p.bare))) h)

put_encoded : {here : Spot} {k : Kind} {parent : Option ℕ} {old now : Drafted} {text name : List ℕ} {mid : Counts} → IsPut here k parent old now text name mid → (items : Option (List Item)) (after : Counts) → gives (optional (codes "encoding") (encodeset (last_named now.nodes)) here) (counts now) ≡ Ok (items, after) → gives (optional (codes "encoding") (encodeset (named_above old.nodes parent)) here) (counts now) ≡ Ok (items, after)
put_encoded {here} {k} {parent} {old} {now} p items after h = ap (λ n. gives (optional (codes "encoding") (encodeset n) here) (counts now)) (sym (bare-named p.bare)) ∙ h

pub put_fails-condition : {here : Spot} {k : Kind} {parent : Option ℕ} {old now : Drafted} {text name : List ℕ} {mid : Counts} → IsPut here k parent old now text name mid → (read : Drafted) (P : Option (List Item) → Type 0) → Ends (optional (codes "encoding") (encodeset (last_named now.nodes)) here) (counts now) (counts read) P
    → (f : ReadFault) → Fails f (gives (conditional here) (counts read)) → Fails f (gives (own k (named_above old.nodes parent) here) (counts old))
put_fails-condition {here} {k} {parent} {old} p read P e f fails = own_fails-condition p.named (named_above old.nodes parent) e.value (counts read) (put_encoded p e.value (counts read) e.walked) f fails

-- a condition of the last of several nodes
with_condition-last : (condition : Option Expr) (nodes : List Placed) (parent : Option ℕ) (k : Kind) (name : List ℕ) (items : List Item)
    → with_condition condition (nodes ++ record { parent = parent; own = with_own k name items None } ∷ []) ≡ nodes ++ record { parent = parent; own = with_own k name items condition } ∷ []
with_condition-last None nodes parent k name items = refl
with_condition-last (Some e) nodes parent k name items = at_last-push _ nodes (record { parent = parent; own = with_own k name items None })

pub put_returns : {here : Spot} {k : Kind} {parent : Option ℕ} {old now : Drafted} {text name : List ℕ} {mid : Counts} (read new : Drafted) → IsPut here k parent old now text name mid → (id : ℕ) → id ≡ length old.nodes → Ends (optional (codes "encoding") (encodeset (last_named now.nodes)) here) (counts now) (counts read) (λ items. read.nodes ≡ with_items (unwrap_or items []) now.nodes)
    → Ends (conditional here) (counts read) (counts new) (λ condition. new.nodes ≡ with_condition condition read.nodes)
    → Ends (own k (named_above old.nodes parent) here) (counts old) (counts new) (λ o. (id ≡ length old.nodes) × (new.nodes ≡ old.nodes ++ record { parent = parent; own = o } ∷ []))
put_returns {here} {k} {parent} {old} {now} {text} {name} read new p id number e f =
    let items = unwrap_or e.value [] in
    let put = f.stands ∙ ap (with_condition f.value) (bare-put p.bare items read.nodes e.stands) ∙ with_condition-last f.value old.nodes parent k name items in
    own_returns p.named (named_above old.nodes parent) e.value (counts read) (put_encoded p e.value (counts read) e.walked) f.value (counts new) f.walked (λ o. (id ≡ length old.nodes) × (new.nodes ≡ old.nodes ++ record { parent = parent; own = o } ∷ [])) (number, put)
