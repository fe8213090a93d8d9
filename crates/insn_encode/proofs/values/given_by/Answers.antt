use Rattle.std.proofs.Common.{map, ◌==◌, ◌<◌, length, arith}
use Rattle.spec_encoding.specs.Named.{parts}
use Rattle.insn_encode.specs.Views.{shown_of, pair_of}
use Rattle.insn_encode.proofs.GivenLaws.{fits-next, gathered-next}
use Rattle.insn_encode.proofs.values.given_by.Goals as goal

pub loop-i-preserved : goal.loop-i-preserved
loop-i-preserved c =
    let shown = shown_of c.args.layout.now c.args.fields.now in
    let pairs = c.args.pairs.now in
    let k = c.loop-i.i in
    let below : k < length pairs = omega (arith, c.loop-i-test.true, c.loop-i.auto) in
    let all = parts (λ a b. a == b) shown (map pair_of pairs) in
    record {
      fits = fits-next shown pairs k below (record { 0 = 0 }, 0) c.loop-i.invariant.fits;
      ones = gathered-next shown pairs k below (record { 0 = 0 }, 0) 1 c.loop-i.given.ones _ all c.with_pair-given.ensures.ones c.loop-i.invariant.ones;
      zeros = gathered-next shown pairs k below (record { 0 = 0 }, 0) 0 c.loop-i.given.zeros _ all c.with_pair-given.ensures.zeros c.loop-i.invariant.zeros;
    }
