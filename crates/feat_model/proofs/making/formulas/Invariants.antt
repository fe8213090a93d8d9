use Rattle.std.proofs.Common.{◌≡◌, ◌+◌, ◌≤◌, ◌++◌, nat_eq, length, map, drop, sum_by}
use Rattle.spec_features.specs.Theory.{formulas, parts}
use Rattle.feat_model.specs.Views.{formula_of}
use Rattle.feat_model.specs.Found.{atoms_of, AreNumbered}
use Rattle.feat_model.specs.Meets.{exprs_at, numbers_of}
use Rattle.feat_model.proofs.making.formulas.Given as goal

abbrev pub invariant-loop-constraint : goal.invariant-loop-constraint
invariant-loop-constraint l =
    let exprs = l.scope.arena.now.exprs in
    let names = numbers_of l.scope.names.now.keys in
    let rest = exprs_at exprs (drop l.constraint-index l.constraints) in
    let left = formulas nat_eq names rest (atoms_of exprs l.atoms.found.items) in
    let whole = formulas nat_eq names (exprs_at exprs l.constraints) (atoms_of exprs l.fn.atoms.found.items) in
    record {
      made : map formula_of l.all.items ++ left.made ≡ whole.made;
      atoms : left.atoms ≡ whole.atoms;
      numbered : AreNumbered l.scope.classes.now.classes l.scope.classes.now.count l.atoms.found.items l.atoms.numbers.items;
      few : length l.atoms.found.items + sum_by parts rest ≤ 4194304;
    }
