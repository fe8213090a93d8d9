use Rattle.std.proofs.Common.{◌∙◌, sym, ap, subst, ℕ, List, length, Some, arith}
use Rattle.std.proofs.lemmas.List.{length-map}
use Rattle.mrs_arena.specs.Placed.{Placed, placed_node, expr_of}
use Rattle.mrs_arena.specs.Expressions.{expr_at}
use Rattle.mrs_arena.proofs.HeldLaws.{AreHeld-preferred}
use Rattle.mrs_arena.proofs.TextLaws.{expr_of-at, held-at}
use Rattle.schema_draft.specs.Drafted.{Drafted, drafted, IsHeld, with_preferred}
use Rattle.schema_draft.proofs.DraftLaws.{placed-with_preferred}
use Rattle.schema_draft.proofs.draft.Draft.preferred.Goals as goal

pub preferred-requires-clause-some : goal.preferred-requires-clause-some
preferred-requires-clause-some c = omega (arith, c.requires.some, ap (λ d. length d.nodes) c.self.view_is, length-map c.self.inside.builder.nodes (placed_node c.self.inside.names))

pub preferred-requires-clause-put : goal.preferred-requires-clause-put
preferred-requires-clause-put c = omega (arith, c.requires.put, ap (λ d. length d.exprs) c.self.view_is, length-map c.self.inside.builder.exprs (expr_of c.self.inside.names))

pub invariant_of-self : goal.invariant_of-self
invariant_of-self c =
    let names = c.self.inside.names in
    let b = c.self.inside.builder in
    subst (IsHeld names) (sym c.preferred.ensures.set)
    (record { nodes = AreHeld-preferred names (expr_at b.exprs c.args.e.0) b.nodes (held-at names b.exprs c.args.e.0 c.self.invariant.exprs) c.self.invariant.nodes; exprs = c.self.invariant.exprs; few = c.self.invariant.few; few_parts = c.self.invariant.few_parts })

-- what is drafted, with the preference of that number
abbrev saying_so : ℕ → Drafted → Drafted
saying_so e d = record d { nodes = with_preferred (Some (expr_at d.exprs e)) d.nodes }

abbrev with_nodes : Drafted → List Placed → Drafted
with_nodes d nodes = record d { nodes = nodes }

pub returns : goal.returns
returns c =
    let names = c.self.inside.names in
    let b = c.self.inside.builder in
    let d = drafted names b in
    ap (drafted names) c.preferred.ensures.set
    ∙ ap (with_nodes d) (placed-with_preferred names (expr_at b.exprs c.args.e.0) b.nodes ∙ ap (λ e. with_preferred (Some e) d.nodes) (expr_of-at names b.exprs c.args.e.0))
    ∙ ap (saying_so c.args.e.0) c.self.view_is
