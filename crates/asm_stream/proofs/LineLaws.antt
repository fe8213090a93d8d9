-- What one line gives.
use Rattle.std.specs.Prelude.{◌==◌}
use Rattle.std.proofs.Common.{◌≡◌, ℕ, false, List, [], ◌∷◌, length, Some, None, Ok, Err, refl, ap, append-nil}
use Rattle.std.specs.Int.{w32, to_le_bytes}
use Rattle.spec_decode.specs.Machine.{Machine}
use Rattle.spec_lines.specs.LineFault.{LineFault}
use Rattle.spec_lines.specs.Parsed.{parsed}
use Rattle.spec_lines.specs.Assembly.{assembled_from}

pub word_gives : (number w : ℕ) (m : Machine) (line : List ℕ) → (length line == 0) ≡ false → parsed m line ≡ Ok w → assembled_from number m (line ∷ []) ≡ record { bytes = to_le_bytes w32 w; refused = None }
word_gives number w m [] some says = absurd cc
word_gives number w m (byte ∷ line) some says = rw says (ap (λ bytes. record { bytes = bytes; refused = None }) (append-nil (to_le_bytes w32 w)))

pub fault_gives : (number : ℕ) (fault : LineFault) (m : Machine) (line : List ℕ) → (length line == 0) ≡ false → parsed m line ≡ Err fault → assembled_from number m (line ∷ []) ≡ record { bytes = []; refused = Some (record { number = number; fault = fault }) }
fault_gives number fault m [] some says = absurd cc
fault_gives number fault m (byte ∷ line) some says = rw says refl
