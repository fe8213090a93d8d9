use Rattle.insn_tree.proofs.LayoutLaws.{ranges-fit, layout-made}
use Rattle.insn_tree.proofs.path_layout.layout.Goals as goal

pub bits_of_fields-requires : goal.bits_of_fields-requires
bits_of_fields-requires c = ranges-fit c.args.arena.now.nodes c.args.n.0 c.args.fields.now c.requires.visible c.requires.formed

pub returns : goal.returns
returns c =
    layout-made c.args.arena.now.nodes c.args.n.0 c.args.fields.now c.requires.visible c.new.result c.fixed_bits.result c.should_be_bits.result c.bits_of_fields.result
    c.fixed_bits.ensures c.bits_of_fields.ensures c.should_be_bits.ensures c.new.ensures.fixed c.new.ensures.free c.new.ensures.default
