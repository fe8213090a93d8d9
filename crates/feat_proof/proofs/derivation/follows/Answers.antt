use Rattle.std.proofs.Common.{sym, ap, ◌∙◌, map, neg_ℤ, arith, drop, get_or, refl, ◌+◌}
use Rattle.spec_refutation.specs.Derivation.{leads}
use Rattle.feat_proof.proofs.Sets.{leads-same}
use Rattle.feat_proof.proofs.Hints.{leads_on}
use Rattle.feat_proof.proofs.derivation.follows.Goals as goal

pub loop-place-init : goal.loop-place-init
loop-place-init c = leads-same c.args.known.now c.hints-hints.result.now c.in_ok-set.set (map neg_ℤ c.literals.result.now) c.in_ok-set.ensures
    ∙ ap (λ ls. leads c.args.known.now (map neg_ℤ ls) c.hints-hints.result.now) c.literals.ensures
    ∙ ap (leads c.args.known.now (map neg_ℤ c.args.step.now.0)) c.hints-hints.ensures

pub loop-place-preserved : goal.loop-place-preserved
loop-place-preserved c =
    let hs = c.hints-hints.result.now in
    let known = c.args.known.now in
    let i = c.loop-place.place in
    leads-same known (drop (i + 1) hs) c.insert.new.self _ c.in_ok-insert.ensures
    ∙ sym (leads_on known c.loop-place.set hs i (get_or hs i 0) refl c.in-Some.clause.now c.in-Some.ensures c.in-Some-only_open.lit (omega arith) c.in-Some-only_open.ensures)
    ∙ c.loop-place.invariant
