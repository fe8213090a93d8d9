use Rattle.std.proofs.Common.{sym}
use Rattle.feat_solve.proofs.Searches.{closes, turned_free, goes_on}
use Rattle.feat_solve.proofs.search.Search.turn_round.Goals as goal

pub returns-in_default-clause-turn : goal.returns-in_default-clause-turn
returns-in_default-clause-turn c =
    let told = c.in_ok-learn_step.ensures in
    closes c.args.self.now c.learn_step.new.self c.args.number c.requires.ready c.requires.conflict told.keeps told.trail told.few told.added told.marked c.settle.new.trail c.settle.ensures
    (sym c.in_default.ensures.decision)

pub turn-requires-clause-free : goal.turn-requires-clause-free
turn-requires-clause-free c =
    let told = c.in_ok-learn_step.ensures in
    turned_free c.args.self.now c.learn_step.new.self c.args.number c.requires.ready c.requires.conflict told.keeps told.trail told.few told.added told.marked c.settle.new.trail c.settle.ensures
    c.in-Some.decision (sym c.in-Some.ensures.decision) c.take_back.new.self c.in-Some.ensures.trail

pub returns-clause-turn : goal.returns-clause-turn
returns-clause-turn c =
    let told = c.in_ok-learn_step.ensures in
    let then = c.in_ok-turn.ensures in
    goes_on c.args.self.now c.learn_step.new.self c.args.number c.requires.ready c.requires.conflict told.keeps told.trail told.few told.added told.marked c.settle.new.trail c.settle.ensures
    c.in-Some.decision (sym c.in-Some.ensures.decision) c.take_back.new.self c.in-Some.ensures.trail c.turn.new.self then.keeps then.steps then.trail
