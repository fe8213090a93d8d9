use Rattle.std.proofs.Common.{◌∙◌, ap, nat_lt, get_or, arith}
use Rattle.std.proofs.lemmas.List.{get_or_default}
use Rattle.mrs_names.specs.declared.name_id.NameId.{NameId}
use Rattle.insn_tree.specs.Ends.{is_shared}
use Rattle.insn_tree.proofs.CountLaws.{numbers}
use Rattle.insn_tree.proofs.ListLaws.{fill_step}
use Rattle.insn_tree.proofs.namesakes.find_shared.Goals as goal

pub loop-name-preserved : goal.loop-name-preserved
loop-name-preserved c =
    let i = c.loop-name.name-index in
    let k = (get_or c.args.names.now i (record { 0 = 0 })).0 in
    let low = c.requires.within i (record { 0 = 0 }) c.loop-name-test.true in
    let long = c.in_ok-counts.ensures.long in
    let count = c.index.ensures ∙ get_or_default c.in_ok-counts.counts.items k c.index.result.now 0 (omega arith) ∙ c.in_ok-counts.ensures.each k low in
    fill_step (λ (name : NameId). is_shared (numbers c.args.names.now) name.0) c.loop-name.shared.items c.push.new.self.items c.args.names.now i (record { 0 = 0 }) (nat_lt 1 c.index.result.now)
    c.loop-name-test.true c.in_ok-push.ensures.items (ap (nat_lt 1) count) c.loop-name.invariant
