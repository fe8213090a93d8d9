use Rattle.std.proofs.Common.{◌∙◌, sym, ap, option_map, Ok, Err}
use Rattle.std.proofs.lemmas.Result.{err_from_is_err_and}
use Rattle.spec_decode.specs.Machine.{Machine}
use Rattle.spec_run.specs.Opening.{◌then◌, configured, machine_by}
use Rattle.mrs_arena.specs.Placed.{text_of}
use Rattle.mrs_arena.proofs.HeldLaws.{AreHeld-extended}
use Rattle.features_reader.specs.FeatureViews.{features_in}
use Rattle.ast_eval.specs.Choices.{configuration_of}
use Rattle.feat_model.specs.Named.{pins_in}
use Rattle.release_opening.proofs.PinLaws.{pins_later, are_their_own}
use Rattle.release_opening.proofs.ReleaseLaws.{comes_then, comes_is_of, machine_comes, machine_is}
use Rattle.release_opening.proofs.opening_release.open_machine.Goals as goal

pub returns-in_err-features-clause-named : goal.returns-in_err-features-clause-named
returns-in_err-features-clause-named g c =
    let p = err_from_is_err_and c.from_residual.result c.from_residual.ensures.1 in
    λ asked named. rw (p.1, p.2) (c.in_err-features.ensures.named asked named)

pub choose-requires-clause-sound : goal.choose-requires-clause-sound
choose-requires-clause-sound g c =
    let s = c.in_ok-features.ensures.opens (pins_in c.args.names c.args.pins.now) (are_their_own c.args.names c.args.pins.now c.requires.pins) in
    s.stands.sound

pub choose-requires-clause-held : goal.choose-requires-clause-held
choose-requires-clause-held g c =
    let s = c.in_ok-features.ensures.opens (pins_in c.args.names c.args.pins.now) (are_their_own c.args.names c.args.pins.now c.requires.pins) in
    s.stands.held

pub returns-in_err-config-clause-opens : goal.returns-in_err-config-clause-opens
returns-in_err-config-clause-opens g c =
    let p = err_from_is_err_and c.from_residual-in_err-config.result c.from_residual-in_err-config.ensures.1 in
    let e = c.in_err-config.field-0.0 in
    let before = c.args.names in
    let names = c.give_features.new.names in
    let f = c.in_ok-features.features in
    let given = c.in_ok-features.ensures in
    λ asked read pins for.
    let comes = c.in_err-config.ensures.chosen asked (pins_later before names given.kept c.args.pins.now asked pins) in
    rw (p.1, p.2)
    (machine_comes asked (option_map (λ n. n.now) c.args.features) read before names c.args.arena for (g.V.Shelf.shelving c.args.shelf.now) (g.V.Shelf.shelving c.give_features.new.shelf) given.same
    f (Err e) (given.opens asked pins) (comes_then (configured (features_in names f) asked) (λ x. Ok (machine_by read.0 x)) e comes))

pub returns-in_err-config-clause-named : goal.returns-in_err-config-clause-named
returns-in_err-config-clause-named g c =
    let p = err_from_is_err_and c.from_residual-in_err-config.result c.from_residual-in_err-config.ensures.1 in
    let names = c.give_features.new.names in
    let pins = c.args.pins.now in
    let own = pins_in c.args.names pins in
    let later = pins_later c.args.names names c.in_ok-features.ensures.kept pins own (are_their_own c.args.names pins c.requires.pins) in
    λ asked named. rw (p.1, p.2) (comes_is_of Machine (configured (features_in names c.in_ok-features.features) own) asked c.in_err-config.field-0.0 (c.in_err-config.ensures.chosen own later))

pub search_through-requires-clause-nodes : goal.search_through-requires-clause-nodes
search_through-requires-clause-nodes g c = AreHeld-extended c.args.names c.give_features.new.names c.args.arena.nodes c.in_ok-features.ensures.kept c.requires.nodes

pub returns-clause-opens : goal.returns-clause-opens
returns-clause-opens g c =
    let before = c.args.names in
    let names = c.give_features.new.names in
    let f = c.in_ok-features.features in
    let given = c.in_ok-features.ensures in
    let features = option_map (λ n. n.now) c.args.features in
    let shelf = g.V.Shelf.shelving c.args.shelf.now in
    let after = g.V.Shelf.shelving c.give_features.new.shelf in
    let in_use = configuration_of (text_of names) c.in_ok-config.config in
    λ asked read pins for.
    let is = c.in_ok-config.ensures.chosen asked (pins_later before names given.kept c.args.pins.now asked pins) in
    let machine = machine_is asked features read before names c.args.arena for shelf after given.same in_use given.kept ∙ sym c.in_ok-search_through.ensures in
    machine_comes asked features read before names c.args.arena for shelf after given.same f (Ok c.in_ok-search_through.field-0) (given.opens asked pins)
    (ap (λ r. r then λ x. Ok (machine_by read.0 x)) is ∙ ap Ok machine)
