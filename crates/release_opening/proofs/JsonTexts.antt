-- A text that is read as JSON, or is not.
use Rattle.std.proofs.Common.{◌≡◌, ℕ, List, Bool, true, false, cond, Option, None, refl}
use Rattle.std.specs.Prelude.{IsUtf8}
use Rattle.std.specs.Str.{is_utf8}
use Rattle.std.proofs.lemmas.Str.{is_utf8-from_IsUtf8, IsUtf8-from_is_utf8}
use Rattle.serde_json.specs.Data.{Data}
use Rattle.serde_json.specs.Read.{read}
use Rattle.spec_run.specs.Opening.{json_in}

pub json_in-utf8 : (bytes : List ℕ) (d : Option Data) → IsUtf8 bytes → read bytes ≡ d → json_in bytes ≡ d
json_in-utf8 bytes d utf8 reads = rw (is_utf8-from_IsUtf8 bytes utf8) reads

pub json_in-none : (bytes : List ℕ) → (IsUtf8 bytes → read bytes ≡ None) → json_in bytes ≡ None
json_in-none bytes h = go (is_utf8 bytes) refl
  where
    go : (b : Bool) → is_utf8 bytes ≡ b → cond b (read bytes) None ≡ None
    go true e = h (IsUtf8-from_is_utf8 bytes e)
    go false e = refl
