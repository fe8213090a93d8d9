use Rattle.std.proofs.Common.{map, arith}
use Rattle.std.proofs.lemmas.List.{length-map}
use Rattle.insn_decode.specs.Members.{encoding_of}
use Rattle.insn_decode.proofs.LookupLaws.{steps_on, falls, tested_bit, ends, ends_within, costs, stands}
use Rattle.insn_decode.proofs.lookup.find_run.Goals as goal

pub node_at-requires : goal.node_at-requires
node_at-requires g c =
    stands c.args.nodes.now (map encoding_of c.args.order.now) c.args.w c.args.steps.now c.requires.0 c.down.k c.down.steps (c.down.invariant c.requires.0 c.requires.1)

pub returns-in-Leaves-clause-within : goal.returns-in-Leaves-clause-within
returns-in-Leaves-clause-within g c =
    let run = ends_within c.args.nodes.now (map encoding_of c.args.order.now) c.args.w c.args.steps.now c.requires.0 c.down.k c.in-Leaves.from c.in-Leaves.to c.down.steps c.in-Leaves.ensures (c.down.invariant c.requires.0 c.requires.1) in
    (run.0, omega (arith, run.1, length-map c.args.order.now encoding_of))

pub returns-in-Leaves-clause-bucket : goal.returns-in-Leaves-clause-bucket
returns-in-Leaves-clause-bucket g c all is =
    ends c.args.nodes.now (map encoding_of c.args.order.now) c.args.w c.args.steps.now all c.down.k c.in-Leaves.from c.in-Leaves.to c.down.steps c.in-Leaves.ensures (c.down.invariant all is)

pub returns-in-Leaves-clause-cost : goal.returns-in-Leaves-clause-cost
returns-in-Leaves-clause-cost g c =
    costs c.args.nodes.now (map encoding_of c.args.order.now) c.args.w c.args.steps.now c.requires.0 c.down.k c.down.steps (c.down.invariant c.requires.0 c.requires.1)

pub followed-k-requires : goal.followed-k-requires
followed-k-requires g c =
    tested_bit c.args.nodes.now (map encoding_of c.args.order.now) c.args.w c.args.steps.now c.requires.0 c.down.k c.in-Test.bit c.in-Test.zero c.in-Test.one c.down.steps c.in-Test.ensures (c.down.invariant c.requires.0 c.requires.1)

pub down-smaller : goal.down-smaller
down-smaller g c =
    falls c.args.nodes.now (map encoding_of c.args.order.now) c.args.w c.args.steps.now c.requires.0 c.down.k c.in-Test.bit c.in-Test.zero c.in-Test.one c.down.steps c.followed-k.result c.in-Test.ensures c.followed-k.ensures (c.down.invariant c.requires.0 c.requires.1)

pub down-preserved : goal.down-preserved
down-preserved g c all is =
    steps_on c.args.nodes.now (map encoding_of c.args.order.now) c.args.w c.args.steps.now all c.down.k c.in-Test.bit c.in-Test.zero c.in-Test.one c.down.steps c.tick.new.self c.followed-k.result c.in-Test.ensures c.tick.ensures c.followed-k.ensures (c.down.invariant all is)
