use Rattle.std.proofs.Common.{◌∙◌, ap, []}
use Rattle.serde_json.specs.View.{view}
use Rattle.instructions_reader.proofs.ReleaseLaws.{arena_read, fault_read}
use Rattle.instructions_reader.proofs.reader.read_instructions.Goals as goal

pub returns-in-Ok-clause-read : goal.returns-in-Ok-clause-read
returns-in-Ok-clause-read c =
    let start = c.new-draft.ensures ∙ ap (λ held. record { names = held; nodes = []; exprs = []; parts = [] }) c.replace-held.ensures.value in
    arena_read c.args.isa.now (view c.args.v.now) c.args.names.now c.close-held.result.0 c.close-held.result.1 c.new-draft.result c.read_document-read.new.draft _ c.root.ensures start c.in-Ok.ensures.walk c.close-held.ensures.names c.close-held.ensures.nodes c.close-held.ensures.exprs c.close-held.ensures.held

pub returns-in-Err-clause-read : goal.returns-in-Err-clause-read
returns-in-Err-clause-read c =
    let start = c.new-draft.ensures ∙ ap (λ held. record { names = held; nodes = []; exprs = []; parts = [] }) c.replace-held.ensures.value in
    fault_read c.in-Err.fault c.args.isa.now (view c.args.v.now) c.args.names.now c.close-held.result.0 c.new-draft.result _ c.root.ensures start c.in-Err.ensures.walk
