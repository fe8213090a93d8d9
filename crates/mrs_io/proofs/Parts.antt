-- A piece that goes through in two parts.
use Rattle.std.proofs.Common.{◌≡◌, ℕ, ◌+◌, List, take, drop, subst, sym}
use Rattle.std.proofs.Math.Seq.{take-add}
use Rattle.std.specs.Prelude.{Option}
use Rattle.std.specs.Io.KnownBytes.{Appends, Consumes}
use Rattle.std.proofs.KnownBytes.{Appends-trans, Consumes-trans}

-- the first n bytes were appended, and then the k behind them
pub Appends-next : (a b c : Option (List ℕ)) (n k : ℕ) (bytes : List ℕ) → Appends a b (take n bytes) → Appends b c (take k (drop n bytes)) → Appends a c (take (n + k) bytes)
Appends-next a b c n k bytes front next = subst (Appends a c) (sym (take-add n k bytes)) (Appends-trans a b c _ _ front next)

-- the first n bytes were consumed, and then the k behind them, which left those first ones in the buffer
pub Consumes-next : (a b c : Option (List ℕ)) (n k : ℕ) (old new : List ℕ) → Consumes a b (take n old) → take n new ≡ take n old → Consumes b c (take k (drop n new)) → Consumes a c (take (n + k) new)
Consumes-next a b c n k old new front kept next =
    subst (Consumes a c) (sym (take-add n k new)) (Consumes-trans a b c _ _ (subst (Consumes a b) (sym kept) front) next)
