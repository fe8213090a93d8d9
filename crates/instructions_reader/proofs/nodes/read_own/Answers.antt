use Rattle.std.proofs.Common.{◌∙◌, sym, ap, subst, [], length, option_map, unwrap_or, arith}
use Rattle.std.proofs.lemmas.List.{length_push}
use Rattle.mrs_arena.specs.Placed.{kind_of, text_of}
use Rattle.schema_draft.proofs.PlacedLaws.{length-with_items}
use Rattle.mrs_walk.proofs.AnswerLaws.{Puts-exit}
use Rattle.instructions_reader.proofs.OwnLaws.{bare_node, is_put, put_fails-encoding, put_fails-condition, put_returns}
use Rattle.mrs_names.specs.Texts.{IsExtended}
use Rattle.mrs_names.proofs.PlaceLaws.{IsExtended-refl, IsExtended-trans}
use Rattle.instructions_reader.proofs.nodes.read_own.Goals as goal

pub returns-in_err-read_encoding-clause-walk : goal.returns-in_err-read_encoding-clause-walk
returns-in_err-read_encoding-clause-walk c =
    let put = is_put c.args.draft.now c.name.new.self c.node.new.self c.in_ok-name.name.0 c.requires c.in_ok-text.ensures c.in_ok-name.ensures.steps c.in_ok-name.ensures.nodes c.in_ok-node.node.0 c.in_ok-node.ensures.steps in
    Puts-exit c.from_residual-in_err-read_encoding.result _ _ _ _ _ c.from_residual-in_err-read_encoding.ensures.1 (put_fails-encoding put _ c.in_err-read_encoding.ensures.walk)

pub read_condition-requires : goal.read_condition-requires
read_condition-requires c =
    let encoding = c.in_ok-read_encoding.ensures.walk in
    omega (
      arith,
      ap length encoding.stands,
      length-with_items (unwrap_or encoding.value []) c.node.new.self.nodes,
      ap length c.in_ok-node.ensures.steps.stands.1,
      length_push c.name.new.self.nodes (bare_node (option_map (λ p. p.0) c.args.parent) (kind_of c.args.kind) (text_of c.name.new.self.names c.in_ok-name.name.0)),
    )

pub returns-in_err-read_condition-clause-walk : goal.returns-in_err-read_condition-clause-walk
returns-in_err-read_condition-clause-walk c =
    let put = is_put c.args.draft.now c.name.new.self c.node.new.self c.in_ok-name.name.0 c.requires c.in_ok-text.ensures c.in_ok-name.ensures.steps c.in_ok-name.ensures.nodes c.in_ok-node.node.0 c.in_ok-node.ensures.steps in
    Puts-exit c.from_residual-in_err-read_condition.result _ _ _ _ _ c.from_residual-in_err-read_condition.ensures.1
    (put_fails-condition put c.read_encoding.new.draft _ c.in_ok-read_encoding.ensures.walk _ c.in_err-read_condition.ensures.walk)

pub returns-clause-walk : goal.returns-clause-walk
returns-clause-walk c =
    let put = is_put c.args.draft.now c.name.new.self c.node.new.self c.in_ok-name.name.0 c.requires c.in_ok-text.ensures c.in_ok-name.ensures.steps c.in_ok-name.ensures.nodes c.in_ok-node.node.0 c.in_ok-node.ensures.steps in
    put_returns c.read_encoding.new.draft c.read_condition.new.draft put c.in_ok-node.node.0 (c.in_ok-node.ensures.steps.stands.0 ∙ ap length c.in_ok-name.ensures.nodes) c.in_ok-read_encoding.ensures.walk c.in_ok-read_condition.ensures.walk

-- ---- names keep their numbers

pub returns-in_err-text-clause-kept : goal.returns-in_err-text-clause-kept
returns-in_err-text-clause-kept c = IsExtended-refl c.args.draft.now.names

pub returns-in_err-name-clause-kept : goal.returns-in_err-name-clause-kept
returns-in_err-name-clause-kept c = c.in_err-name.ensures.kept

pub returns-in_err-node-clause-kept : goal.returns-in_err-node-clause-kept
returns-in_err-node-clause-kept c = subst (IsExtended c.args.draft.now.names) (sym c.in_err-node.ensures.names) c.in_ok-name.ensures.kept

pub returns-in_err-read_encoding-clause-kept : goal.returns-in_err-read_encoding-clause-kept
returns-in_err-read_encoding-clause-kept c = IsExtended-trans c.args.draft.now.names c.node.new.self.names c.read_encoding.new.draft.names (subst (IsExtended c.args.draft.now.names) (sym c.in_ok-node.ensures.names) c.in_ok-name.ensures.kept) c.in_err-read_encoding.ensures.kept

pub returns-in_err-read_condition-clause-kept : goal.returns-in_err-read_condition-clause-kept
returns-in_err-read_condition-clause-kept c = IsExtended-trans c.args.draft.now.names c.read_encoding.new.draft.names c.read_condition.new.draft.names (IsExtended-trans c.args.draft.now.names c.node.new.self.names c.read_encoding.new.draft.names (subst (IsExtended c.args.draft.now.names) (sym c.in_ok-node.ensures.names) c.in_ok-name.ensures.kept) c.in_ok-read_encoding.ensures.kept) c.in_err-read_condition.ensures.kept

pub returns-clause-kept : goal.returns-clause-kept
returns-clause-kept c = IsExtended-trans c.args.draft.now.names c.read_encoding.new.draft.names c.read_condition.new.draft.names (IsExtended-trans c.args.draft.now.names c.node.new.self.names c.read_encoding.new.draft.names (subst (IsExtended c.args.draft.now.names) (sym c.in_ok-node.ensures.names) c.in_ok-name.ensures.kept) c.in_ok-read_encoding.ensures.kept) c.in_ok-read_condition.ensures.kept
