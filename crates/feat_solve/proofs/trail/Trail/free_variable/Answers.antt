use Rattle.feat_solve.proofs.Tabled.{kept_further, found_free, none_free}
use Rattle.feat_solve.proofs.trail.Trail.free_variable.Goals as goal

pub invariant_of-self : goal.invariant_of-self
invariant_of-self c =
    let f = c.first_unmarked-self-inside in kept_further _ _ c.self.inside.on c.self.inside.least f.result c.self.invariant f.ensures.after f.ensures.before

pub returns-then-self-vars-clause-free : goal.returns-then-self-vars-clause-free
returns-then-self-vars-clause-free c =
    let f = c.first_unmarked-self-inside in
    found_free _ c.args.self.now c.self.view_is c.self.inside.on c.self.inside.least f.result c.args.vars
    c.self.invariant.tabled f.ensures.after f.ensures.before c.if-self-vars.true f.ensures.here

pub invariant_of-self-2 : goal.invariant_of-self-2
invariant_of-self-2 c =
    let f = c.first_unmarked-self-inside in kept_further _ _ c.self.inside.on c.self.inside.least f.result c.self.invariant f.ensures.after f.ensures.before

pub returns-clause-free : goal.returns-clause-free
returns-clause-free c =
    let f = c.first_unmarked-self-inside in
    none_free _ c.args.self.now c.self.view_is c.self.inside.on c.self.inside.least f.result c.args.vars
    c.self.invariant.tabled f.ensures.before c.if-self-vars.false
