use Rattle.std.proofs.Common.{sym, ap, List, [], ◌∷◌, length, arith, length-append}
use Rattle.std.proofs.lemmas.Result.{on_ok_weaker}
use Rattle.insn_decode.specs.declared.node.Node.{Node}
use Rattle.insn_decode.specs.declared.node.Node.TheVariants.{Test}
use Rattle.insn_decode.specs.declared.member.Member.{Member}
use Rattle.insn_decode.proofs.SplitLaws.{sides_of}
use Rattle.insn_decode.proofs.GrowLaws.{test_pushed}
use Rattle.insn_decode.proofs.growing.+grow.Goals as goal

pub returns-clause-decides : goal.returns-clause-decides
returns-clause-decides t c =
    test_pushed c.push_node.result c.grow.new.nodes.items c.grow-2.new.nodes.items c.push_node.new.nodes.items c.grow.new.order.items c.grow-2.new.order.items
    c.deref.result.now c.in_ok-with_zero.with_zero.items c.deref-2.result.now c.in_ok-with_one.with_one.items c.args.members.now c.in-Some.bit c.in_ok-zero.zero c.in_ok-one.one
    (sym c.in-Some.ensures.bit)
    c.deref.ensures.value c.in_ok-with_zero.ensures.agreeing c.in_ok-zero.ensures.decides
    c.in_ok-one.ensures.nodes c.in_ok-one.ensures.order
    c.deref-2.ensures.value c.in_ok-with_one.ensures.agreeing c.in_ok-one.ensures.decides
    c.push_node.ensures.number c.push_node.ensures.nodes

-- ---- the numbers fit

pub grow-requires-2 : goal.grow-requires-2
grow-requires-2 t c =
    let both = sides_of c.in-Some.bit c.args.members.now c.in_ok-with_zero.with_zero.items c.in_ok-with_one.with_one.items (sym c.in-Some.ensures.bit) c.in_ok-with_zero.ensures.agreeing c.in_ok-with_one.ensures.agreeing in
    let low = ap (λ (l : List Member). length l) c.deref.ensures.value in
    let high = ap (λ (l : List Member). length l) c.deref-2.ensures.value in (
      omega (arith, c.in_ok-with_one.ensures.fewer, high),
      (
        omega (arith, c.requires.nodes, c.in_ok-zero.ensures.few, both.zero_too, both.one_too, both.together, low, high),
        omega (arith, c.requires.places, c.in_ok-zero.ensures.places, both.together, low, high),
      ),
    )

pub push_node-requires : goal.push_node-requires
push_node-requires t c =
    let both = sides_of c.in-Some.bit c.args.members.now c.in_ok-with_zero.with_zero.items c.in_ok-with_one.with_one.items (sym c.in-Some.ensures.bit) c.in_ok-with_zero.ensures.agreeing c.in_ok-with_one.ensures.agreeing in
    let low = ap (λ (l : List Member). length l) c.deref.ensures.value in
    let high = ap (λ (l : List Member). length l) c.deref-2.ensures.value in
    omega (arith, c.requires.nodes, c.in_ok-zero.ensures.few, c.in_ok-one.ensures.few, both.zero_too, both.one_too, both.together, low, high)

pub returns-clause-few : goal.returns-clause-few
returns-clause-few t c =
    let both = sides_of c.in-Some.bit c.args.members.now c.in_ok-with_zero.with_zero.items c.in_ok-with_one.with_one.items (sym c.in-Some.ensures.bit) c.in_ok-with_zero.ensures.agreeing c.in_ok-with_one.ensures.agreeing in
    let low = ap (λ (l : List Member). length l) c.deref.ensures.value in
    let high = ap (λ (l : List Member). length l) c.deref-2.ensures.value in
    on_ok_weaker c.push_node.result (λ put. let more = ap (λ (l : List Node). length l) put in omega (arith, more, length-append c.grow-2.new.nodes.items (Test c.in-Some.bit c.in_ok-zero.zero c.in_ok-one.one ∷ []), c.in_ok-zero.ensures.few, c.in_ok-one.ensures.few, both.zero_too, both.one_too, both.together, low, high)) c.push_node.ensures.nodes

pub returns-clause-places : goal.returns-clause-places
returns-clause-places t c =
    let both = sides_of c.in-Some.bit c.args.members.now c.in_ok-with_zero.with_zero.items c.in_ok-with_one.with_one.items (sym c.in-Some.ensures.bit) c.in_ok-with_zero.ensures.agreeing c.in_ok-with_one.ensures.agreeing in
    let low = ap (λ (l : List Member). length l) c.deref.ensures.value in
    let high = ap (λ (l : List Member). length l) c.deref-2.ensures.value in
    on_ok_weaker c.push_node.result (λ put. omega (arith, c.in_ok-zero.ensures.places, c.in_ok-one.ensures.places, both.together, low, high)) c.push_node.ensures.nodes
