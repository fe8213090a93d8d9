-- What was counted, as the definition has it.
use Rattle.std.specs.Prelude.{option_map}
use Rattle.spec_run.specs.Checking as run
use Rattle.release_opening.specs.declared.counted.SetCounts.{SetCounts}
use Rattle.release_opening.specs.declared.counted.FeatureCounts.{FeatureCounts}
use Rattle.release_opening.specs.declared.counted.Counted.{Counted}

abbrev pub set_of : SetCounts → run.SetCounts
set_of c = record { nodes = c.nodes; leaves = c.leaves; aliases = c.aliases }

abbrev pub features_of : FeatureCounts → run.FeatureCounts
features_of c = record { booleans = c.booleans; others = c.others; constraints = c.constraints; atoms = c.atoms }

abbrev pub counted_of : Counted → run.Counted
counted_of c = record { set = option_map set_of c.set; features = option_map features_of c.features }
