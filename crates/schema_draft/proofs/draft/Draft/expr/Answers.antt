use Rattle.std.proofs.Common.{◌∙◌, sym, ap, subst, ℕ, [], ◌∷◌, ◌++◌, length, map, Ok, Err, arith}
use Rattle.std.proofs.lemmas.List.{map_push, length-map, length_push}
use Rattle.std.proofs.lemmas.Bool.{leb-false}
use Rattle.spec_walk.specs.Limits.{expression_limit}
use Rattle.spec_walk.specs.Event.{TooMany, AnExpression}
use Rattle.spec_walk.specs.Walk.{gives}
use Rattle.spec_walk.specs.Spot.{one_more}
use Rattle.mrs_arena.specs.Placed.{text_of, expr_of}
use Rattle.mrs_arena.specs.Expressions.{expr_at, made, made_by, HasParts, HasName}
use Rattle.mrs_arena.proofs.TextLaws.{made-text, expr_of-at, AreHeldExprs-push}
use Rattle.schema_draft.specs.Drafted.{Drafted, drafted, IsHeld, counts}
use Rattle.mrs_walk.specs.Here.{spot_of}
use Rattle.mrs_walk.proofs.AnswerLaws.{Fails-made}
use Rattle.schema_draft.proofs.CountLaws.{expr_taken, expr_refused}
use Rattle.schema_draft.proofs.draft.Draft.expr.Goals as goal

pub expr-requires : goal.expr-requires
expr-requires c =
    let b = c.self.inside.builder in
    let has = subst (λ (d : Drafted). HasParts (length d.exprs) d.parts c.args.e) (sym c.self.view_is) c.requires.parts in
    subst (λ (n : ℕ). HasParts n b.parts c.args.e) (length-map b.exprs (expr_of c.self.inside.names)) has

pub invariant_of-self : goal.invariant_of-self
invariant_of-self c =
    let names = c.self.inside.names in
    let b = c.self.inside.builder in
    let own = subst (λ (d : Drafted). HasName (length d.names) c.args.e) (sym c.self.view_is) c.requires.held in
    let longer = length_push b.exprs (made (expr_at b.exprs) b.parts c.args.e) in
    subst (IsHeld names) (sym c.in-Ok.ensures.put)
    (record {
      nodes = c.self.invariant.nodes;
      exprs = AreHeldExprs-push names b.exprs b.parts c.args.e own c.self.invariant.exprs;
      few = omega (arith, longer, leb-false expression_limit (length b.exprs) c.in-Ok.ensures.room);
      few_parts = omega (arith, longer, c.self.invariant.few_parts);
    })

pub returns-in-Ok-clause-steps : goal.returns-in-Ok-clause-steps
returns-in-Ok-clause-steps c =
    let here = spot_of c.args.here.now in
    let names = c.self.inside.names in
    let b = c.self.inside.builder in
    let texts = map (expr_of names) b.exprs in record {
      value = tt;
      walked =
          ap (λ d. gives (one_more AnExpression here) (counts d)) (sym c.self.view_is)
          ∙ expr_taken here names b c.args.e c.in-Ok.ensures.room
          ∙ ap (λ b. Ok (tt, counts (drafted names b))) (sym c.in-Ok.ensures.put);
      stands = (
        c.in-Ok.ensures.number ∙ sym (length-map b.exprs (expr_of names)) ∙ ap (λ d. length d.exprs) c.self.view_is,
        ap (λ b. map (expr_of names) b.exprs) c.in-Ok.ensures.put ∙ map_push (expr_of names) b.exprs (made (expr_at b.exprs) b.parts c.args.e)
            ∙ ap (λ e. texts ++ e ∷ []) (made-text names (expr_at b.exprs) (expr_at texts) (expr_of-at names b.exprs) b.parts c.args.e)
            ∙ ap (λ d. d.exprs ++ made_by (text_of d.names) (expr_at d.exprs) d.parts c.args.e ∷ []) c.self.view_is,
      );
    }

pub returns-clause-steps : goal.returns-clause-steps
returns-clause-steps c =
    let here = spot_of c.args.here.now in
    Fails-made c.fault.result here TooMany _ c.fault.ensures (
    ap (λ d. gives (one_more AnExpression here) (counts d)) (sym c.self.view_is)
    ∙ expr_refused here c.self.inside.names c.self.inside.builder (c.in-Err-TooMany.ensures.too_many (ap Err c.in-Err-TooMany.field-0-is))
    )
