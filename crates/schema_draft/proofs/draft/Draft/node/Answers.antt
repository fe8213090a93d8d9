use Rattle.std.proofs.Common.{◌∙◌, sym, ap, subst, ℕ, ◌<◌, List, [], ◌∷◌, ◌++◌, length, map, option_map, Option, Ok, Err}
use Rattle.std.proofs.lemmas.List.{map_push, length-map}
use Rattle.spec_walk.specs.Event.{TooMany}
use Rattle.spec_walk.specs.Walk.{gives}
use Rattle.spec_instructions.specs.Walk.{counted}
use Rattle.mrs_arena.specs.Nodes.{new_node}
use Rattle.mrs_arena.specs.Paths.{IsPlace}
use Rattle.mrs_arena.specs.Placed.{kind_of, placed_node}
use Rattle.mrs_arena.proofs.HeldLaws.{parents-placed, AreHeld-node}
use Rattle.schema_draft.specs.Drafted.{Drafted, drafted, IsHeld, counts, parents}
use Rattle.mrs_walk.specs.Here.{spot_of}
use Rattle.mrs_walk.proofs.AnswerLaws.{Fails-made}
use Rattle.schema_draft.proofs.CountLaws.{node_taken, node_refused}
use Rattle.schema_draft.proofs.draft.Draft.node.Goals as goal

pub node-requires : goal.node-requires
node-requires c =
    let parent = option_map (λ p. p.0) c.args.parent in
    let place = subst (λ (d : Drafted). IsPlace (parents d.nodes) parent) (sym c.self.view_is) c.requires.place in
    subst (λ (ps : List (Option ℕ)). IsPlace ps parent) (parents-placed c.self.inside.names c.self.inside.builder.nodes) place

pub invariant_of-self : goal.invariant_of-self
invariant_of-self c =
    let names = c.self.inside.names in
    let own = subst (λ (d : Drafted). c.args.name.0 < length d.names) (sym c.self.view_is) c.requires.held in
    let nodes = AreHeld-node names c.self.inside.builder.nodes c.args.kind c.args.name.0 (option_map (λ p. p.0) c.args.parent) c.self.invariant.nodes own in
    subst (IsHeld names) (sym c.in-Ok.ensures.put) (record { nodes = nodes; exprs = c.self.invariant.exprs; few = c.self.invariant.few; few_parts = c.self.invariant.few_parts })

pub returns-in-Ok-clause-steps : goal.returns-in-Ok-clause-steps
returns-in-Ok-clause-steps c =
    let here = spot_of c.args.here.now in
    let kind = c.args.kind in
    let parent = option_map (λ p. p.0) c.args.parent in
    let names = c.self.inside.names in
    let built = c.self.inside.builder in
    let new = new_node kind c.args.name.0 parent in record {
      value = tt;
      walked =
          ap (λ d. gives (counted (kind_of kind) here) (counts d)) (sym c.self.view_is)
          ∙ node_taken here names built kind c.args.name.0 parent c.in-Ok.ensures.room
          ∙ ap (λ b. Ok (tt, counts (drafted names b))) (sym c.in-Ok.ensures.put);
      stands = (
        c.in-Ok.ensures.number ∙ sym (length-map built.nodes (placed_node names)) ∙ ap (λ d. length d.nodes) c.self.view_is,
        ap (λ b. map (placed_node names) b.nodes) c.in-Ok.ensures.put ∙ map_push (placed_node names) built.nodes new ∙ ap (λ d. d.nodes ++ placed_node d.names new ∷ []) c.self.view_is,
      );
    }

pub returns-clause-steps : goal.returns-clause-steps
returns-clause-steps c =
    let here = spot_of c.args.here.now in
    Fails-made c.fault.result here TooMany _ c.fault.ensures (
    ap (λ d. gives (counted (kind_of c.args.kind) here) (counts d)) (sym c.self.view_is)
    ∙ node_refused here c.self.inside.names c.self.inside.builder c.args.kind (c.in-Err-TooMany.ensures.too_many (ap Err c.in-Err-TooMany.field-0-is))
    )
