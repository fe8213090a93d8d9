use Rattle.std.proofs.Common.{refl, ap, length}
use Rattle.spec_run.specs.End.{Features}
use Rattle.spec_run.specs.Opening.{by_walk}
use Rattle.features_reader.specs.FeatureViews.{features_in}
use Rattle.features_reader.specs.FeaturesRead.{with_expressions}
use Rattle.release_opening.proofs.opening_features.read_value.Goals as goal

pub returns-in-Ok-clause-reads : goal.returns-in-Ok-clause-reads
returns-in-Ok-clause-reads c =
    let names = c.read_features.new.names in
    let f = c.in-Ok.features in
    let read = c.in-Ok.ensures.read in
    record {
      value = (features_in names f, with_expressions names (length f.arena.exprs));
      is = ap (by_walk Features) read.walk;
      stands = record { are = refl; sound = read.sound; held = read.held };
    }
