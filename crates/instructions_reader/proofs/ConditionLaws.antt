-- Laws of what the last node says by an expression: its condition, and the preference of an alias.
use Rattle.std.proofs.Common.{◌≡◌, ◌∙◌, sym, ap, refl, ℕ, Bool, List, length, Option, Some, Ok}
use Rattle.std.specs.Prelude.{count_by}
use Rattle.spec_walk.specs.Limits.{Counts}
use Rattle.spec_walk.specs.Walk.{Done, gives}
use Rattle.spec_walk.specs.Spot.{Spot, member_at, optional}
use Rattle.spec_walk.proofs.WalkLaws.{gives-next}
use Rattle.spec_expressions.specs.Expression.{Expr}
use Rattle.spec_expressions.specs.Reading.{expression}
use Rattle.spec_instructions.specs.Kind.{Kind}
use Rattle.spec_instructions.specs.Tree.{Own}
use Rattle.mrs_arena.specs.Expressions.{expr_at}
use Rattle.mrs_arena.specs.Nodes.{at_last}
use Rattle.mrs_arena.specs.Placed.{Placed}
use Rattle.mrs_arena.proofs.HeldLaws.{count_by-map}
use Rattle.mrs_arena.proofs.LastOneLaws.{length-at_last, map-at_last_same}
use Rattle.mrs_walk.specs.Gives.{Fails, Ends}
use Rattle.mrs_walk.specs.declared.fault.ReadFault.{ReadFault}
use Rattle.mrs_walk.proofs.AnswerLaws.{Fails-then, Fails-same, optional-there}
use Rattle.schema_draft.specs.Drafted.{Drafted, counts, is_leaf_kind, is_alias_kind}
use Rattle.expression_reader.specs.ExprsRead.{IsRead}

-- What a node says is changed by an expression, and its kind is not: it is set at the last node, if the expression is there.
module _ (change : Expr → Own → Own) (same_kind : (x : Expr) (own : Own) → (change x own).kind ≡ own.kind) where
  abbrev changed : Expr → List Placed → List Placed
  changed x nodes = at_last (λ p. record p { own = change x p.own }) nodes

  -- so no count is
  kinds-changed : (is : Kind → Bool) (x : Expr) (nodes : List Placed) → count_by (λ p. is p.own.kind) (changed x nodes) ≡ count_by (λ p. is p.own.kind) nodes
  kinds-changed is x nodes =
      sym (count_by-map is (λ p. is p.own.kind) (λ p. p.own.kind) (changed x nodes) (λ p. refl))
      ∙ ap (count_by is) (map-at_last_same (λ p. p.own.kind) (λ p. record p { own = change x p.own }) (λ p. same_kind x p.own) nodes)
      ∙ count_by-map is (λ p. is p.own.kind) (λ p. p.own.kind) nodes (λ p. refl)

  counts-changed : (x : Expr) (d : Drafted) → counts (record d { nodes = changed x d.nodes }) ≡ counts d
  counts-changed x d =
      let nodes = changed x d.nodes in
      let with : ℕ → ℕ → ℕ → Counts = λ n l a. record { held = d.names; nodes = n; leaves = l; aliases = a; expressions = length d.exprs } in
      ap (λ n. with n (count_by (λ p. is_leaf_kind p.own.kind) nodes) (count_by (λ p. is_alias_kind p.own.kind) nodes)) (length-at_last (λ p. record p { own = change x p.own }) d.nodes)
      ∙ ap (λ n. with (length d.nodes) n (count_by (λ p. is_alias_kind p.own.kind) nodes)) (kinds-changed is_leaf_kind x d.nodes)
      ∙ ap (with (length d.nodes) (count_by (λ p. is_leaf_kind p.own.kind) d.nodes)) (kinds-changed is_alias_kind x d.nodes)

  -- an expression that is there is read, and set at the last node
  pub said_returns : (with_said : Option Expr → List Placed → List Placed) → ((x : Expr) (nodes : List Placed) → with_said (Some x) nodes ≡ changed x nodes)
      → (key : List ℕ) (here there : Spot) (old mid new : Drafted) (id : ℕ) → Some there ≡ member_at key here → Ends (expression there) (counts old) (counts mid) (λ x. IsRead old mid x id) → mid.nodes ≡ old.nodes
      → new ≡ record mid { nodes = with_said (Some (expr_at mid.exprs id)) mid.nodes } → Ends (optional key expression here) (counts old) (counts new) (λ said. new.nodes ≡ with_said said old.nodes)
  said_returns with_said says key here there old mid new id is p same set = record {
    value = Some p.value;
    walked =
        ap (λ w. gives w (counts old)) (optional-there key expression here there is)
        ∙ gives-next (expression there) (λ x. Done (Some x)) (counts old) (counts mid) p.value p.walked
        ∙ ap (λ c. Ok (Some p.value, c)) (sym (ap counts set ∙ ap (λ nodes. counts (record mid { nodes = nodes })) (says (expr_at mid.exprs id) mid.nodes) ∙ counts-changed (expr_at mid.exprs id) mid));
    stands = ap (λ d. d.nodes) set ∙ ap (λ x. with_said (Some x) mid.nodes) p.stands.stands ∙ ap (with_said (Some p.value)) same;
  }

pub said_fails : (key : List ℕ) (f : ReadFault) (here there : Spot) (c : Counts) → Some there ≡ member_at key here → Fails f (gives (expression there) c) → Fails f (gives (optional key expression here) c)
said_fails key f here there c is h = Fails-same f _ _ (ap (λ w. gives w c) (optional-there key expression here there is)) (Fails-then f (expression there) (λ x. Done (Some x)) c h)
