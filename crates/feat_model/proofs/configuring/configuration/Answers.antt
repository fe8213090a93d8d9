use Rattle.feat_model.proofs.Distinct.{distinct_names}
use Rattle.feat_model.proofs.configuring.configuration.Goals as goal

pub new-requires-clause-distinct : goal.new-requires-clause-distinct
new-requires-clause-distinct c = distinct_names c.in_ok-names.names.items c.args.model.now.names c.in_ok-names.ensures.names c.name_count-parameters.ensures.formed.distinct
