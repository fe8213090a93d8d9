use Rattle.std.proofs.Common.{sym, ◌∙◌}
use Rattle.feat_model.proofs.Numbers.{numbered_more}
use Rattle.feat_model.proofs.atoms.Atoms.take.Goals as goal

pub returns-in-Some-clause-numbered : goal.returns-in-Some-clause-numbered
returns-in-Some-clause-numbered c =
    numbered_more _ _ c.args.self.now.found.items _ c.args.self.now.numbers.items c.args.e _ _ c.requires.numbered c.requires.within
    (sym c.in-Some.ensures.class) c.in-Some.ensures.below c.requires.new (c.len-number.ensures ∙ c.args.self.now.found.ok.0) c.in_ok-push.ensures.items
