use Rattle.std.proofs.Common.{◌≡◌, ◌∙◌, sym, ap, subst, ◌+◌, ◌<◌, false, [], ◌∷◌, length, map, option_to_list, IfSome, bytes_eq, Ok, Err, arith}
use Rattle.std.proofs.lemmas.List.{length-map}
use Rattle.std.specs.List.{list_any}
use Rattle.spec_walk.specs.Event.{TooMany}
use Rattle.spec_walk.specs.Walk.{gives}
use Rattle.spec_walk.specs.Spot.{unless}
use Rattle.mrs_arena.specs.Flat.{Built}
use Rattle.mrs_arena.specs.Formed.{AreNodes}
use Rattle.mrs_arena.specs.Views.{flat_item}
use Rattle.mrs_arena.specs.Placed.{item_of, placed_node, text_of}
use Rattle.mrs_arena.proofs.HeldLaws.{AreHeld-item}
use Rattle.schema_draft.specs.Drafted.{Drafted, drafted, IsHeld, counts, last_items, last_named, with_items}
use Rattle.spec_instructions.specs.Encodeset.{within_limits, names_of}
use Rattle.mrs_walk.specs.Here.{spot_of}
use Rattle.mrs_walk.proofs.AnswerLaws.{Fails-made}
use Rattle.schema_draft.proofs.DraftLaws.{placed-with_item, item_taken, item_refused, IsHeld-number, free_number, length-number}
use Rattle.schema_draft.proofs.draft.Draft.item.Goals as goal

pub item-requires-clause-free : goal.item-requires-clause-free
item-requires-clause-free c =
    let names = c.self.inside.names in
    let nodes = c.self.inside.builder.nodes in
    let held = subst (λ (d : Drafted). IfSome c.args.it.name (λ id. id.0 < length d.names)) (sym c.self.view_is) c.requires.held in
    let free = subst (λ (d : Drafted). IfSome c.args.it.name (λ id. list_any (bytes_eq (text_of d.names id.0)) (names_of (last_items d.nodes)) ≡ false)) (sym c.self.view_is) c.requires.free in
    free_number names nodes c.args.it.name c.len-count.ensures.names c.self.invariant.nodes held free

pub invariant_of-self : goal.invariant_of-self
invariant_of-self c =
    let names = c.self.inside.names in
    let held = subst (λ (d : Drafted). IfSome c.args.it.name (λ id. id.0 < length d.names)) (sym c.self.view_is) c.requires.held in
    let nodes = AreHeld-item names (flat_item c.args.it) c.self.inside.builder.nodes (IsHeld-number names c.args.it.name held) c.self.invariant.nodes in
    subst (IsHeld names) (sym c.in-Ok.ensures.put) (record { nodes = nodes; exprs = c.self.invariant.exprs; few = c.self.invariant.few; few_parts = c.self.invariant.few_parts })

pub returns-in-Ok-clause-steps : goal.returns-in-Ok-clause-steps
returns-in-Ok-clause-steps c =
    let here = spot_of c.args.here.now in
    let it = flat_item c.args.it in
    let names = c.self.inside.names in
    let built = c.self.inside.builder in
    let nodes = built.nodes in
    let named = length (option_to_list c.args.it.name) in
    let some : 0 < length nodes = omega (arith, c.requires.some, ap (λ d. length d.nodes) c.self.view_is, length-map nodes (placed_node names)) in
    let put = c.in-Ok.ensures.put in
    let formed = subst (λ (b : Built). AreNodes b.nodes) put c.in-Ok.ensures.formed in record {
      value = tt;
      walked =
          ap (λ d. gives (unless (within_limits (length (last_items d.nodes)) (last_named d.nodes + named)) here TooMany) (counts d)) (sym c.self.view_is)
          ∙ item_taken here names built it named (length-number c.args.it.name) some c.in-Ok.ensures.room formed
          ∙ ap (λ b. Ok (tt, counts (drafted names b))) (sym put);
      stands = ap (λ b. map (placed_node names) b.nodes) put ∙ placed-with_item names it nodes ∙ ap (λ d. with_items (item_of d.names it ∷ []) d.nodes) c.self.view_is;
    }

pub returns-clause-steps : goal.returns-clause-steps
returns-clause-steps c =
    let here = spot_of c.args.here.now in
    let named = length (option_to_list c.args.it.name) in
    Fails-made c.fault.result here TooMany _ c.fault.ensures (
    ap (λ d. gives (unless (within_limits (length (last_items d.nodes)) (last_named d.nodes + named)) here TooMany) (counts d)) (sym c.self.view_is)
    ∙ item_refused here c.self.inside.names c.self.inside.builder (flat_item c.args.it) named (length-number c.args.it.name) (c.in-Err-TooMany.ensures.too_many (ap Err c.in-Err-TooMany.field-0-is))
    )
