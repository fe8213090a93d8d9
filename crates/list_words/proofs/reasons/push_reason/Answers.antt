use Rattle.std.proofs.Common.{◌≡◌, ◌∙◌, sym, ap, subst, ◌++◌, List}
use Rattle.std.specs.Prelude.{OnOk}
use Rattle.mrs_arena.specs.Flat.{FlatNode}
use Rattle.list_words.specs.Told.{reason_told}
use Rattle.list_words.proofs.ReasonLaws.{reason-same}
use Rattle.list_words.proofs.reasons.push_reason.Goals as goal

pub returns : goal.returns
returns c = λ tree config told nodes is.
    let why = c.args.fault.now.why in
    subst (λ text. OnOk c.push_why.result (c.push_why.new.out.items ≡ c.args.out.now.items ++ text))
    (ap (λ (ns : List FlatNode). reason_told c.args.names.now ns why) (sym nodes) ∙ reason-same c.args.names.now tree config why told.why is.why)
    c.push_why.ensures
