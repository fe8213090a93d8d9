use Rattle.std.proofs.Common.{◌∙◌, ◌+◌, ◌<◌, ◌≤◌, length, sym, ap, subst, map, All}
use Rattle.insn_tree.specs.Visible.{FlatField}
use Rattle.insn_tree.specs.PathIds.{path_of}
use Rattle.insn_encode.specs.Shown.{field_by}
use Rattle.insn_encode.proofs.EncodingLaws.{shown-is}
use Rattle.insn_encode.proofs.ShownLaws.{all-shown}
use Rattle.insn_encode.proofs.path_encoding.shown_along.Goals as goal

pub returns-clause-fields : goal.returns-clause-fields
returns-clause-fields c = λ names are held.
    ap (map (field_by names)) c.new.ensures ∙ shown-is names (path_of names c.args.tree.now c.args.p) c.path_layout.result (c.path_layout.ensures.numbers names are held) c.path_fields.result.now (c.path_fields.ensures.visible names are held) c.path_fields.ensures.within

pub returns-clause-within : goal.returns-clause-within
returns-clause-within c = subst (All (λ (f : FlatField). f.start + f.width ≤ 32)) (sym c.new.ensures) (all-shown (λ f. f.start + f.width ≤ 32) c.path_layout.result c.path_fields.result.now c.path_fields.ensures.within)

pub returns-clause-held : goal.returns-clause-held
returns-clause-held c = λ names held.
    subst (All (λ (f : FlatField). f.name < length names)) (sym c.new.ensures) (all-shown (λ f. f.name < length names) c.path_layout.result c.path_fields.result.now (c.path_fields.ensures.held names held))
