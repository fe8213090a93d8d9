use Rattle.std.proofs.Common.{◌≡◌, ℤ, true, length}
use Rattle.spec_refutation.specs.Derivation.{has}
use Rattle.feat_solve.specs.Tables.{marked}
use Rattle.feat_solve.proofs.marks.clear_all.Given as goal

abbrev pub invariant-out : goal.invariant-out
invariant-out l = (m : ℤ) → marked l.flags m ≡ true → has l.members.items m ≡ true

abbrev pub decreases-out : goal.decreases-out
decreases-out l = length l.members.items
