use Rattle.std.proofs.Common.{◌≡◌, ◌-◌, ℕ, false}
use Rattle.std.specs.Prelude.{slice_index_or}
use Rattle.std.specs.Vec.{vec_len}
use Rattle.feat_solve.proofs.flags.grow.Given as goal

abbrev pub invariant-more : goal.invariant-more
invariant-more l = (k : ℕ) → slice_index_or l.table.items k false ≡ slice_index_or l.fn.table.items k false

abbrev pub decreases-more : goal.decreases-more
decreases-more l = l.count - vec_len l.table
