use Rattle.features_reader.proofs.ParamLaws.{AreKept}
use Rattle.features_reader.proofs.features.Features.of_names.Given as goal

abbrev pub invariant-loop-name : goal.invariant-loop-name
invariant-loop-name l = AreKept l.params.items l.name-index l.list
