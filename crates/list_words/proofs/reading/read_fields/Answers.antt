use Rattle.std.proofs.Common.{◌≡◌, ◌∙◌, sym, ap, subst, List, Ok, Err}
use Rattle.std.specs.Prelude.{unwrap_or}
use Rattle.std.proofs.lemmas.Result.{err_from_is_err_and}
use Rattle.spec_instructions.specs.Tree.{Own}
use Rattle.spec_encoding.specs.Encoding.{encoding}
use Rattle.spec_lines.specs.Given.{nothing, given_behind}
use Rattle.spec_lines.specs.Parsed.{of_given}
use Rattle.list_words.specs.Faults.{Answers}
use Rattle.list_words.specs.Listers.{machine}
use Rattle.list_words.specs.Encoded.{IsRefusedAt}
use Rattle.list_words.specs.Ways.{way_by}
use Rattle.list_words.proofs.WayLaws.{machine_path}
use Rattle.list_words.proofs.ReadLaws.{given_refused, word_said, fault_said}
use Rattle.list_words.proofs.reading.read_fields.Goals as goal

pub returns-in_err-read_given : goal.returns-in_err-read_given
returns-in_err-read_given c =
    let p = err_from_is_err_and c.from_residual.result c.from_residual.ensures.1 in
    let l = c.args.l.now in
    subst (λ r. Answers l.names.now l.tree.now r (of_given (machine l) c.args.at (way_by c.args.path) (given_behind nothing c.args.tokens))) (sym (p.1 ∙ ap Err p.2))
    (given_refused l.names.now l.tree.now (machine l) c.args.at (way_by c.args.path) c.in_err-read_given.field-0.0 (given_behind nothing c.args.tokens) (c.in_err-read_given.ensures l.tree.now))

pub returns-in-Ok : goal.returns-in-Ok
returns-in-Ok c =
    let l = c.args.l.now in
    let given = c.in_ok-read_given.ensures in
    let same = machine_path l.names.now l.tree.now l.config.now (way_by c.args.path) in
    word_said l.names.now l.tree.now (machine l) c.args.at (way_by c.args.path) (given_behind nothing c.args.tokens) given.given given.is c.in-Ok.w
    (subst (λ (p : List Own). encoding p (machine l).configuration given.given.pairs (unwrap_or given.given.rest 0) ≡ Ok c.in-Ok.w) (sym same) (c.in-Ok.ensures c.fields.result.now given.given c.fields.ensures.visible given.given_is))

pub returns-in-Err : goal.returns-in-Err
returns-in-Err c =
    let l = c.args.l.now in
    let given = c.in_ok-read_given.ensures in
    let same = machine_path l.names.now l.tree.now l.config.now (way_by c.args.path) in
    subst (λ r. Answers l.names.now l.tree.now r (of_given (machine l) c.args.at (way_by c.args.path) (given_behind nothing c.args.tokens))) (sym c.refused.ensures)
    (fault_said l.names.now l.tree.now (machine l) c.args.at (way_by c.args.path) (given_behind nothing c.args.tokens) given.given given.is c.in-Err.fault
    (subst (λ (p : List Own). IsRefusedAt l.names.now l.tree.now (way_by c.args.path) c.in-Err.fault (encoding p (machine l).configuration given.given.pairs (unwrap_or given.given.rest 0))) (sym same) (c.in-Err.ensures c.fields.result.now given.given c.fields.ensures.visible given.given_is)))

pub read_given-requires-clause-nothing : goal.read_given-requires-clause-nothing
read_given-requires-clause-nothing c = c.nothing-given.ensures _ _
