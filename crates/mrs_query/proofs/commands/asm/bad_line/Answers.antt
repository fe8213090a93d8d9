use Rattle.std.proofs.Common.{inr, sym, ap, ◌∙◌}
use Rattle.spec_run.specs.End.{Question, Line}
use Rattle.mrs_query.proofs.commands.asm.bad_line.Goals as goal

pub returns-clause-tells : goal.returns-clause-tells
returns-clause-tells c = λ told is.
    let same = c.in-Ok.ensures told is in
    inr (record {
      is = ap (λ at. Question (Line c.args.line at c.in-Ok.text.items)) (sym is.at) ∙ ap (λ text. Question (Line c.args.line told.at text)) same;
      has = record { lister = c.args.lister.now; told = told; fault_is = is; is = same };
    })
