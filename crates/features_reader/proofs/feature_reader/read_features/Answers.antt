use Rattle.std.proofs.Common.{◌∙◌, ap, []}
use Rattle.serde_json.specs.View.{view}
use Rattle.features_reader.proofs.FeatureLaws.{features_made, fault_read}
use Rattle.features_reader.proofs.feature_reader.read_features.Goals as goal

pub returns-in-Ok-clause-read : goal.returns-in-Ok-clause-read
returns-in-Ok-clause-read c =
    let start = c.new-draft.ensures ∙ ap (λ held. record { names = held; nodes = []; exprs = []; parts = [] }) c.replace-held.ensures.value in
    features_made (view c.args.v.now) c.args.names.now c.close-held.result.0 (record { arena = c.close-held.result.1; params = c.in-Ok.params; constraints = c.in-Ok.constraints }) c.new-draft.result c.read_document-read.new.draft _
    c.root.ensures start c.in-Ok.ensures.walk c.in-Ok.ensures.nodes c.close-held.ensures.names c.close-held.ensures.exprs c.close-held.ensures.held_exprs c.close-held.ensures.few

pub returns-in-Err-clause-read : goal.returns-in-Err-clause-read
returns-in-Err-clause-read c =
    let start = c.new-draft.ensures ∙ ap (λ held. record { names = held; nodes = []; exprs = []; parts = [] }) c.replace-held.ensures.value in
    fault_read c.in-Err.fault (view c.args.v.now) c.args.names.now c.close-held.result.0 c.new-draft.result _ c.root.ensures start c.in-Err.ensures.walk
