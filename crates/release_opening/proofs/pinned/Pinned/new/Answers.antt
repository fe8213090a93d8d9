use Rattle.std.proofs.Common.{◌∙◌, ap, sym, subst, map}
use Rattle.mrs_names.proofs.DistinctLaws.{behind, behind-next, behind-none, none-behind}
use Rattle.spec_command.specs.Pins.{Pin}
use Rattle.release_opening.proofs.PinLaws.{ReadPins, one_pin, all_pins}
use Rattle.release_opening.proofs.pinned.Pinned.new.Invariants.{Step}
use Rattle.release_opening.proofs.pinned.Pinned.new.Goals as goal

pub loop-pin-preserved : goal.loop-pin-preserved
loop-pin-preserved c =
    let old = c.loop-pin.names in
    let new = c.intern.new.self in
    let pins = c.loop-pin.pins.items in
    let left = c.next.new.self in
    let list = c.args.list in
    let before = subst (λ all. Step old pins all list) c.in-Some.ensures.steps c.loop-pin.invariant in
    let read = one_pin old new pins left list c.in-Some.pin.name.now c.in-Some.pin.on c.in-Ok.name.0 c.in-Ok.ensures.kept c.in-Ok.ensures.place before.pins_are in
    record {
      names_are =
          ap (λ ns. behind ns (map (λ (pin : Pin). pin.0) left)) c.in-Ok.ensures.names
          ∙ behind-next old (map (λ (pin : Pin). pin.0) left) c.in-Some.pin.name.now
          ∙ before.names_are;
      pins_are = subst (λ ps. ReadPins new ps left list) (sym c.in_ok-push.ensures.items) read;
    }

pub returns : goal.returns
returns c =
    let names = c.loop-pin.names in
    let pins = c.loop-pin.pins.items in
    let list = c.args.list in
    let done = subst (λ left. Step names pins left list) c.in-None.ensures.steps.0 c.loop-pin.invariant in
    record {
      names_are = sym (none-behind names) ∙ done.names_are ∙ behind-none (map (λ (pin : Pin). pin.0) list);
      pins_are = all_pins names pins list done.pins_are;
    }
