use Rattle.word_layout.proofs.PlacedLaws.{value-inside, fixed-at}
use Rattle.word_layout.proofs.fixed_bits.FixedBits.at.Goals as goal

pub invariant_of-result-clause-inside : goal.invariant_of-result-clause-inside
invariant_of-result-clause-inside c =
    let p = c.args.pattern.now in
    value-inside p.mask p.value c.args.start p.width p.value_in_mask p.mask_fits c.requires

pub returns : goal.returns
returns c =
    let p = c.args.pattern.now in
    fixed-at p.mask p.value c.args.start p.width p.value_in_mask p.mask_fits c.requires
