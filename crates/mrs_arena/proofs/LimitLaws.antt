-- The names that are held and those that a walk counts have one limit.
use Rattle.std.proofs.Common.{◌≡◌, refl}
use Rattle.spec_walk.specs.Limits as walk
use Rattle.mrs_names.specs.Texts as names

one_name_limit : names.name_limit ≡ walk.name_limit
one_name_limit = refl
