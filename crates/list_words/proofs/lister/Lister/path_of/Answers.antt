use Rattle.std.proofs.Common.{◌∙◌, sym, ap, option_map}
use Rattle.spec_lines.specs.Way as spec
use Rattle.insn_tree.specs.declared.leaf_id.AliasId.{AliasId}
use Rattle.list_words.proofs.WayLaws.{held_by}
use Rattle.list_words.proofs.lister.Lister.path_of.Goals as goal

pub returns-in-Some-clause-way : goal.returns-in-Some-clause-way
returns-in-Some-clause-way c =
    let l = c.args.self.now in
    ap (spec.way_by c.args.leaf.0) (sym (ap (option_map (λ (a : AliasId). a.0)) c.in-Some.is) ∙ c.preferred.ensures.preferred l.names.now (held_by l.names.now l.tree.now l.decider.now l.config.now c.requires.release))

pub returns-in-None-clause-way : goal.returns-in-None-clause-way
returns-in-None-clause-way c =
    let l = c.args.self.now in
    ap (spec.way_by c.args.leaf.0) (sym (ap (option_map (λ (a : AliasId). a.0)) c.in-None.is) ∙ c.preferred.ensures.preferred l.names.now (held_by l.names.now l.tree.now l.decider.now l.config.now c.requires.release))
