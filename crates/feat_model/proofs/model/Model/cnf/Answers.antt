use Rattle.feat_model.proofs.Bounds.{made_within, made_few}
use Rattle.feat_model.proofs.NamedLaws.{named_clauses}
use Rattle.feat_model.proofs.model.Model.cnf.Goals as goal

pub returns-clause-within : goal.returns-clause-within
returns-clause-within c = made_within c.args.self.now c.args.pins.now c.put_together.result c.put_together.ensures.formed c.put_together.ensures.cnf

pub returns-clause-few : goal.returns-clause-few
returns-clause-few c = made_few c.args.self.now c.args.pins.now c.put_together.result c.put_together.ensures.formed c.requires c.put_together.ensures.cnf

pub returns-clause-named : goal.returns-clause-named
returns-clause-named c = let told = c.put_together.ensures in named_clauses c.args.self.now c.args.pins.now c.put_together.result told.cnf told.known told.unknown
