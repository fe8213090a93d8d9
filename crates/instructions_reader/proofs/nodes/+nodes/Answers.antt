use Rattle.std.proofs.Common.{◌∙◌, ap, refl, arith, codes}
use Rattle.spec_walk.specs.Walk.{Done}
use Rattle.mrs_arena.specs.Placed.{kind_of}
use Rattle.mrs_walk.specs.Here.{spot_of}
use Rattle.mrs_walk.proofs.AnswerLaws.{Puts-exit}
use Rattle.mrs_walk.proofs.DepthLaws.{member_shallower, element_shallower}
use Rattle.spec_instructions.specs.Kind.{Group, Leaf, Alias}
use Rattle.spec_instructions.specs.Walk.{alias_of}
use Rattle.instructions_reader.specs.Nodes.{whole}
use Rattle.schema_draft.specs.Drafted.{named_at}
use Rattle.instructions_reader.specs.Kinds.{child_kind_of}
use Rattle.instructions_reader.proofs.NodeLaws.{ChildrenRead-none, ChildrenRead-next, ChildrenRead-fails, children_fail, children_return, child_returns, whole_returns, IsLast, last-place}
use Rattle.mrs_names.proofs.PlaceLaws.{IsExtended-refl, IsExtended-trans}
use Rattle.instructions_reader.proofs.nodes.+nodes.Goals as goal

pub read_child-returns-in-Group-clause-walk : goal.read_child-returns-in-Group-clause-walk
read_child-returns-in-Group-clause-walk t c =
    child_returns c.read_node.result c.args.draft.now c.read_node.new.draft c.args.parent.0 (record { owner = kind_of c.args.owner; named = named_at c.args.draft.now.nodes c.args.parent.0 }) (spot_of c.args.here.now) Group (whole Group (named_at c.args.draft.now.nodes c.args.parent.0) (spot_of c.args.here.now)) (c.in_ok-read_child_kind.ensures ∙ ap (λ k. Done (child_kind_of k)) c.in-Group.is) refl c.read_node.ensures.walk

pub read_child-returns-in-Leaf-clause-walk : goal.read_child-returns-in-Leaf-clause-walk
read_child-returns-in-Leaf-clause-walk t c =
    child_returns c.read_node-in-Leaf.result c.args.draft.now c.read_node-in-Leaf.new.draft c.args.parent.0 (record { owner = kind_of c.args.owner; named = named_at c.args.draft.now.nodes c.args.parent.0 }) (spot_of c.args.here.now) Leaf (whole Leaf (named_at c.args.draft.now.nodes c.args.parent.0) (spot_of c.args.here.now)) (c.in_ok-read_child_kind.ensures ∙ ap (λ k. Done (child_kind_of k)) c.in-Leaf.is) refl c.read_node-in-Leaf.ensures.walk

pub read_child-returns-in-Alias-clause-walk : goal.read_child-returns-in-Alias-clause-walk
read_child-returns-in-Alias-clause-walk t c =
    child_returns c.read_alias.result c.args.draft.now c.read_alias.new.draft c.args.parent.0 (record { owner = kind_of c.args.owner; named = named_at c.args.draft.now.nodes c.args.parent.0 }) (spot_of c.args.here.now) Alias (alias_of (named_at c.args.draft.now.nodes c.args.parent.0) (spot_of c.args.here.now)) (c.in_ok-read_child_kind.ensures ∙ ap (λ k. Done (child_kind_of k)) c.in-Alias.is) refl c.read_alias.ensures.walk

pub read_children-loop-i-init : goal.read_children-loop-i-init
read_children-loop-i-init t c = ChildrenRead-none (record { owner = kind_of c.args.owner; named = named_at c.args.draft.now.nodes c.args.parent.0 }) _ c.args.parent.0 c.args.draft.now _ c.requires refl

pub read_children-read_child-requires : goal.read_children-read_child-requires
read_children-read_child-requires t c = (
  omega (
    arith,
    c.decreases,
    member_shallower (codes "children") (spot_of c.args.here.now) (spot_of c.in-Some.list) c.in-Some.ensures,
    element_shallower (spot_of c.in-Some.list) (spot_of c.element.result) _ c.loop-i.i _ c.in_ok-values.ensures c.loop-i-test.true c.index-values-i.is (ap (λ s. s.value) c.element.ensures),
  ),
  c.loop-i.invariant.place,
)

pub read_children-returns-in_err-read_child-clause-walk : goal.read_children-returns-in_err-read_child-clause-walk
read_children-returns-in_err-read_child-clause-walk t c =
    Puts-exit c.from_residual-in_err-read_child.result _ _ _ _ _ c.from_residual-in_err-read_child.ensures.1
    (children_fail _ (record { owner = kind_of c.args.owner; named = named_at c.args.draft.now.nodes c.args.parent.0 }) (spot_of c.args.here.now) (spot_of c.in-Some.list) _ _ c.in-Some.ensures c.in_ok-values.ensures
    (ChildrenRead-fails c.loop-i.invariant _ c.loop-i-test.true c.index-values-i.is _ c.element.ensures _ c.in_err-read_child.ensures.walk))

pub read_children-loop-i-preserved : goal.read_children-loop-i-preserved
read_children-loop-i-preserved t c = ChildrenRead-next c.loop-i.invariant _ c.loop-i-test.true c.index-values-i.is _ c.element.ensures c.read_child.new.draft c.in_ok-read_child.ensures.walk c.in_ok-read_child.ensures.kept

pub read_children-returns-clause-walk : goal.read_children-returns-clause-walk
read_children-returns-clause-walk t c = children_return (spot_of c.args.here.now) (spot_of c.in-Some.list) _ c.in-Some.ensures c.in_ok-values.ensures c.loop-i.invariant c.loop-i-test.false

pub read_node-read_children-requires : goal.read_node-read_children-requires
read_node-read_children-requires t c =
    let e = c.in_ok-node.ensures.walk in
    let last : IsLast c.args.draft.now.nodes c.read_own.new.draft.nodes _ e.value c.in_ok-node.node.0 = record { place = c.requires; number = e.stands.0; nodes = e.stands.1 } in
    (omega (arith, c.decreases), last-place last)

pub read_node-returns-clause-walk : goal.read_node-returns-clause-walk
read_node-returns-clause-walk t c =
    whole_returns c.read_children.result c.args.draft.now c.read_own.new.draft c.read_children.new.draft _ (kind_of c.args.kind) (spot_of c.args.here.now) c.in_ok-node.node.0 c.requires c.in_ok-node.ensures.walk c.read_children.ensures.walk

-- ---- names keep their numbers

pub read_node-returns-in_err-node-clause-kept : goal.read_node-returns-in_err-node-clause-kept
read_node-returns-in_err-node-clause-kept t c = c.in_err-node.ensures.kept

pub read_node-returns-clause-kept : goal.read_node-returns-clause-kept
read_node-returns-clause-kept t c = IsExtended-trans c.args.draft.now.names c.read_own.new.draft.names c.read_children.new.draft.names c.in_ok-node.ensures.kept c.read_children.ensures.kept

pub read_children-returns-in_err-values-clause-kept : goal.read_children-returns-in_err-values-clause-kept
read_children-returns-in_err-values-clause-kept t c = IsExtended-refl c.args.draft.now.names

pub read_children-returns-in_err-read_child-clause-kept : goal.read_children-returns-in_err-read_child-clause-kept
read_children-returns-in_err-read_child-clause-kept t c = IsExtended-trans c.args.draft.now.names c.loop-i.draft.names c.read_child.new.draft.names c.loop-i.invariant.kept c.in_err-read_child.ensures.kept

pub read_children-returns-clause-kept : goal.read_children-returns-clause-kept
read_children-returns-clause-kept t c = c.loop-i.invariant.kept
