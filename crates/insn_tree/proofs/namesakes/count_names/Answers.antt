use Rattle.std.proofs.Common.{◌∙◌, get_or, arith}
use Rattle.std.proofs.lemmas.List.{get_or_default, length-set}
use Rattle.insn_tree.proofs.CountLaws.{sakes-le, count_step}
use Rattle.insn_tree.proofs.namesakes.count_names.Goals as goal

pub overflow_add-index_mut : goal.overflow_add-index_mut
overflow_add-index_mut c =
    let i = c.loop-name.name-index in
    let k = (get_or c.args.names.now i (record { 0 = 0 })).0 in
    let low = c.requires.within i (record { 0 = 0 }) c.loop-name-test.true in
    let long = c.loop-name.invariant.long in
    let few = c.requires.few in
    let within = c.loop-name-test.true in
    let value = c.index_mut.ensures.value ∙ get_or_default c.loop-name.counts.items k c.index_mut.result.now 0 (omega arith) ∙ c.loop-name.invariant.each k low in
    omega (arith, value, sakes-le c.args.names.now i k (omega arith))

pub loop-name-preserved : goal.loop-name-preserved
loop-name-preserved c = record {
  long = length-set c.loop-name.counts.items _ _ ∙ c.loop-name.invariant.long;
  each = count_step c.loop-name.counts.items c.args.names.now c.loop-name.name-index (record { 0 = 0 }) c.index_mut.result.now c.args.count c.loop-name-test.true c.loop-name.invariant.long
      (c.requires.within c.loop-name.name-index (record { 0 = 0 }) c.loop-name-test.true) c.loop-name.invariant.each c.index_mut.ensures.value;
}
