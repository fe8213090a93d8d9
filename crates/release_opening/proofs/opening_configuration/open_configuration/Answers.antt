use Rattle.std.proofs.Common.{refl, sym, subst, true, false}
use Rattle.std.proofs.lemmas.Result.{err_from_is_err_and}
use Rattle.features_reader.specs.FeatureViews.{features_in}
use Rattle.spec_run.specs.Opening.{configured}
use Rattle.spec_run.specs.Commands.{of_checks}
use Rattle.release_opening.specs.Pinned.{ArePins}
use Rattle.release_opening.proofs.PinLaws.{pins_later}
use Rattle.release_opening.proofs.ReleaseLaws.{configuration_comes, comes_named}
use Rattle.release_opening.proofs.opening_configuration.open_configuration.Goals as goal

pub returns-in_err-features-clause-named : goal.returns-in_err-features-clause-named
returns-in_err-features-clause-named g c =
    let p = err_from_is_err_and c.from_residual-in_err-features.result c.from_residual-in_err-features.ensures.1 in
    rw (p.1, p.2) (c.in_err-features.ensures.named (of_checks false true) refl)

pub returns-clause-opens : goal.returns-clause-opens
returns-clause-opens g c =
    let asked = c.args.pins in
    let pinned = c.in_ok-names.ensures in
    let before = c.in_ok-names.field-0.names in
    let names = c.open_features.new.names in
    let read = c.in_ok-features.ensures in
    let pins = subst (λ ps. ArePins names ps asked) (sym c.deref.ensures.value) (pins_later before names read.kept c.in_ok-names.field-0.pins.items asked pinned.pins_are) in
    configuration_comes c.args.features.now asked before names pinned.names_are (g.V.Shelf.shelving c.args.shelf.now) (g.V.Shelf.shelving c.open_features.new.shelf)
    c.in_ok-features.features c.configure_by.result read.same read.opens (c.configure_by.ensures asked pins)

pub returns-clause-named : goal.returns-clause-named
returns-clause-named g c =
    let asked = c.args.pins in
    let names = c.open_features.new.names in
    let pins = subst (λ ps. ArePins names ps asked) (sym c.deref.ensures.value) (pins_later c.in_ok-names.field-0.names names c.in_ok-features.ensures.kept c.in_ok-names.field-0.pins.items asked c.in_ok-names.ensures.pins_are) in
    comes_named (configured (features_in names c.in_ok-features.features) asked) (of_checks false true) c.configure_by.result (c.configure_by.ensures asked pins)
