use Rattle.std.proofs.Common.{sym, ap, ◌∙◌, arith}
use Rattle.features_reader.proofs.ParamLaws.{AreKept-none, AreKept-held, AreKept-new, features_made}
use Rattle.features_reader.proofs.features.Features.of_names.Goals as goal

pub loop-name-init : goal.loop-name-init
loop-name-init c = AreKept-none c.new-params.result.items c.args.list.now c.new-params.ensures.items

pub loop-name-preserved-then-is_named : goal.loop-name-preserved-then-is_named
loop-name-preserved-then-is_named c = AreKept-held c.loop-name.invariant c.loop-name-test.true c.deref.result.now c.deref.ensures.value (sym c.is_named.ensures ∙ c.if-is_named.true)

pub loop-name-preserved : goal.loop-name-preserved
loop-name-preserved c =
    AreKept-new c.loop-name.invariant c.loop-name-test.true c.deref.result.now c.deref.ensures.value (sym c.is_named.ensures ∙ c.if-is_named.false) c.push.new.self.items c.in_ok-push.ensures.items

pub returns : goal.returns
returns c =
    let made = features_made (record { arena = c.close.result; params = c.loop-name.params; constraints = c.new-2.result }) c.loop-name.invariant c.loop-name-test.false c.new-2.ensures.items (omega (arith, c.requires)) in
    record {
      names = made.names;
      named = made.named;
      sound = made.sound;
      bare = (ap (λ a. a.nodes) c.close.ensures ∙ ap (λ b. b.nodes) c.new.ensures, ap (λ a. a.exprs) c.close.ensures ∙ ap (λ b. b.exprs) c.new.ensures);
    }
