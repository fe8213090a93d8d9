use Rattle.std.proofs.Common.{ap, ◌∙◌}
use Rattle.expr_classes.specs.Classes.{Numbered, class_in}
use Rattle.expr_classes.proofs.Final.{below_of}
use Rattle.expr_classes.proofs.classes.Classes.class.Goals as goal

pub returns-clause-below : goal.returns-clause-below
returns-clause-below c =
    below_of _ _ c.self.view_is c.self.invariant c.args.e.0 c.requires c.class_at.result
    (c.class_at.ensures ∙ ap (λ cs. class_in cs c.args.e.0) c.deref.ensures.value ∙ ap (λ (n : Numbered). class_in n.classes c.args.e.0) c.self.view_is)
