use Rattle.feat_solve.proofs.Searches.{on_ok, if_ok, keeps_keeps, joined_ready, joined_conflict}
use Rattle.std.proofs.Common.{◌∙◌, ap, [], ◌∷◌, ◌++◌}
use Rattle.feat_solve.proofs.search.Search.shorten.Goals as goal

pub returns-in-Some-clause-ready : goal.returns-in-Some-clause-ready
returns-in-Some-clause-ready c =
    let s = c.args.self.now in
    let told = c.in_ok-step.ensures in
    let added = c.add.ensures in
    let taught = rw c.in-Some.is at told.taught in
    on_ok c.add.result added.added
    (λ grown. joined_ready s c.add.new.self c.args.number taught.0 c.requires.ready c.requires.conflict c.in-Some.step taught.1 (keeps_keeps s c.shorter_step.new.self c.add.new.self told.keeps added.keeps)
    (added.trail ∙ told.trail) added.few (grown ∙ ap (λ steps. steps.items ++ c.in-Some.step ∷ []) told.steps))

pub returns-in-Some-clause-conflict : goal.returns-in-Some-clause-conflict
returns-in-Some-clause-conflict c =
    let s = c.args.self.now in
    let told = c.in_ok-step.ensures in
    let added = c.add.ensures in
    let taught = rw c.in-Some.is at told.taught in
    if_ok c.add.result added.added added.number
    (λ n grown is. joined_conflict s c.add.new.self c.args.number taught.0 c.requires.ready c.requires.conflict c.in-Some.step taught.1 (keeps_keeps s c.shorter_step.new.self c.add.new.self told.keeps added.keeps)
    (added.trail ∙ told.trail) added.few (grown ∙ ap (λ steps. steps.items ++ c.in-Some.step ∷ []) told.steps) n is)
