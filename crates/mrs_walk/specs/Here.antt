-- What a reader stands at.
use Rattle.serde_json.specs.View.{view}
use Rattle.spec_walk.specs.Spot.{Spot}
use Rattle.mrs_walk.specs.Pointers.{pointer}
use Rattle.mrs_walk.specs.declared.here.Here.{Here}

abbrev pub spot_of : Here → Spot
spot_of h = record { at = pointer h.place; value = view h.value.now }
