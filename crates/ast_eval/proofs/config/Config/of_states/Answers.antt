use Rattle.std.proofs.Common.{◌∙◌, ap, ◌<◌, ◌==◌, length, get_or, arith}
use Rattle.indexmap.proofs.CallerLemmas.{insert_entry-new}
use Rattle.mrs_names.specs.declared.name_id.NameId.{NameId}
use Rattle.ast_eval.proofs.ChoiceLaws.{no_entry_at, one_more, all_put, numbers_put, states_put}
use Rattle.ast_eval.proofs.config.Config.of_states.Goals as goal

pub loop-i-preserved : goal.loop-i-preserved
loop-i-preserved c =
    let none : NameId = record { 0 = 0 } in
    let names = c.args.names.items in
    let i = c.loop-i.i in
    let name = get_or c.deref-name-items.result.now i none in
    let flag = c.index.result.now in
    let same = c.deref-name-items.ensures.value in
    let within : i < length names = omega (arith, ap length same) in
    let free = no_entry_at c.loop-i.chosen.entries names c.deref-name-items.result.now i none same within c.requires.distinct c.loop-i.invariant.names in
    let put = c.in_ok-insert.ensures.entries ∙ insert_entry-new (λ (x : NameId) (y : NameId). x.0 == y.0) c.loop-i.chosen name flag free in
    record {
      names = one_more (λ e. e.0) c.loop-i.chosen.entries c.insert.new.self.entries (name, flag) i names put within none (ap (λ xs. get_or xs i none) same) c.loop-i.invariant.names;
      states = one_more (λ e. e.1) c.loop-i.chosen.entries c.insert.new.self.entries (name, flag) i c.args.states.items put (omega arith) flag c.index.ensures c.loop-i.invariant.states;
    }

pub returns-clause-names : goal.returns-clause-names
returns-clause-names c =
    numbers_put c.loop-i.chosen.entries c.args.names.items (all_put (λ e. e.0) c.loop-i.chosen.entries c.loop-i.i c.args.names.items (omega (arith, ap length c.deref-name-items.ensures.value)) c.loop-i.invariant.names)

pub returns-clause-states : goal.returns-clause-states
returns-clause-states c =
    states_put c.loop-i.chosen.entries c.args.states.items
    (all_put (λ e. e.1) c.loop-i.chosen.entries c.loop-i.i c.args.states.items (omega (arith, ap length c.deref-name-items.ensures.value, c.requires.count, c.loop-i-test.false)) c.loop-i.invariant.states)
