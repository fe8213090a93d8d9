use Rattle.std.proofs.Common.{◌∙◌, arith}
use Rattle.feat_model.proofs.Made.{names_few, theory_is, found_few}
use Rattle.feat_model.proofs.making.translated.Goals as goal

pub formulas-requires-clause-scope : goal.formulas-requires-clause-scope
formulas-requires-clause-scope c = record {
  are = c.in_ok-classes.ensures.same;
  below = c.in_ok-classes.ensures.below;
  few = names_few c.args.f.now.params.items c.args.names.now.keys c.requires.names c.requires.sound.few;
}

pub overflow_cast-found : goal.overflow_cast-found
overflow_cast-found c =
    let few = found_few c.args.f.now _ c.args.names.now.keys c.in_ok-atoms.atoms.found.items c.formulas.new.atoms.found.items c.in_ok-constraints.constraints.items c.in_ok-atoms.ensures.found c.deref.ensures.value
    c.in_ok-constraints.ensures c.requires.sound.few_parts in
    omega (arith, few, c.len-found.ensures, c.formulas.new.atoms.found.ok.0)

pub returns : goal.returns
returns c =
    theory_is c.args.f.now _ c.args.names.now.keys c.in_ok-atoms.atoms.found.items c.formulas.new.atoms.found.items c.in_ok-constraints.constraints.items c.len-found.result
    c.requires.names c.in_ok-atoms.ensures.found c.deref.ensures.value c.in_ok-constraints.ensures (c.len-found.ensures ∙ c.formulas.new.atoms.found.ok.0)
