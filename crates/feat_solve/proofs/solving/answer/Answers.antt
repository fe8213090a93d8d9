use Rattle.std.proofs.Common.{arith}
use Rattle.spec_refutation.specs.First.{IsFirst, IsRefutation}
use Rattle.feat_solve.proofs.Beyond.{reached_clauses, reached_within, reached_first, reached_refutes}
use Rattle.feat_solve.proofs.solving.answer.Goals as goal

pub searched-requires-clause-within : goal.searched-requires-clause-within
searched-requires-clause-within c =
    reached_clauses c.greatest_variable-most.result c.args.vars c.args.clauses.now c.greatest_variable-most.ensures.value c.requires.within

pub with_free-requires : goal.with_free-requires
with_free-requires c =
    let f : IsFirst c.greatest_variable-most.result c.args.clauses.now c.in-Model.states.items = rw c.in-Model.is at c.in_ok-states.ensures in
    omega (arith, f.whole, reached_within c.greatest_variable-most.result c.args.vars c.args.clauses.now c.greatest_variable-most.ensures.value c.requires.within)

pub returns-in_ok-with_free-in-Model : goal.returns-in_ok-with_free-in-Model
returns-in_ok-with_free-in-Model c =
    let f : IsFirst c.greatest_variable-most.result c.args.clauses.now c.in-Model.states.items = rw c.in-Model.is at c.in_ok-states.ensures in
    reached_first c.greatest_variable-most.result c.args.vars c.args.clauses.now c.greatest_variable-most.ensures.value c.requires.within
    c.in-Model.states.items c.in_ok-with_free-in-Model.field-0.items f c.in_ok-with_free-in-Model.ensures

pub returns-in-Refuted : goal.returns-in-Refuted
returns-in-Refuted c =
    let r : IsRefutation c.greatest_variable-most.result c.args.clauses.now c.in-Refuted.log = rw c.in-Refuted.is at c.in_ok-states.ensures in
    reached_refutes c.greatest_variable-most.result c.args.vars c.args.clauses.now c.greatest_variable-most.ensures.value c.requires.within c.in-Refuted.log r
