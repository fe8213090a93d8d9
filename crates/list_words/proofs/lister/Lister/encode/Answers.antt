use Rattle.std.proofs.Common.{◌∙◌, sym, ap, map, ℕ, List}
use Rattle.spec_instructions.specs.Tree.{Own}
use Rattle.spec_encoding.specs.Refusal.{with_node}
use Rattle.spec_encoding.specs.Encoding.{encoding}
use Rattle.mrs_arena.specs.Placed.{path_to}
use Rattle.insn_encode.specs.Along.{node_along}
use Rattle.insn_encode.specs.Held.{pair_by, node_at}
use Rattle.list_words.specs.Listers.{machine}
use Rattle.list_words.specs.Ways.{way_by, path_along}
use Rattle.list_words.proofs.WayLaws.{held_by, is_path, along, way-end}
use Rattle.list_words.proofs.lister.Lister.encode.Goals as goal

pub encode_along-requires-clause-path : goal.encode_along-requires-clause-path
encode_along-requires-clause-path c = is_path c.args.self.now.tree.now c.args.path c.requires.within

pub returns-clause-answer : goal.returns-clause-answer
returns-clause-answer c = λ held.
    let l = c.args.self.now in
    let names = l.names.now in
    let nodes = l.tree.now.nodes in
    let g = (machine l).configuration in
    let pairs = map (pair_by names) c.args.pairs.now in
    c.encode_along.ensures.answer names (held_by names l.tree.now l.decider.now l.config.now c.requires.release) held
    ∙ ap (λ (p : List Own). with_node (node_along nodes c.args.path) (encoding p g pairs c.args.rest)) (sym (along l.tree.now names c.args.path c.requires.within))
    ∙ ap (λ (n : ℕ). with_node (node_at nodes n) (encoding (path_along names l.tree.now (way_by c.args.path)) g pairs c.args.rest)) (way-end nodes c.args.path)

pub returns-clause-path : goal.returns-clause-path
returns-clause-path c =
    let l = c.args.self.now in
    along l.tree.now l.names.now c.args.path c.requires.within
    ∙ c.encode_along.ensures.path l.names.now
    ∙ ap (path_to l.names.now l.tree.now.nodes) (way-end l.tree.now.nodes c.args.path)
