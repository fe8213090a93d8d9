-- JSON Pointer (RFC 6901): the place of a value in a document, as text. Each token follows a `/`.
use Rattle.std.specs.Prelude.{ℕ, ◌==◌, List, [], ◌∷◌, ◌++◌, if◌then◌else◌, decimal}

-- `~` is written `~0`, and `/` is written `~1`
abbrev pub escaped_byte : ℕ → List ℕ
escaped_byte b = if b == 126 then 126 ∷ 48 ∷ [] else (if b == 47 then 126 ∷ 49 ∷ [] else b ∷ [])

abbrev pub escaped : List ℕ → List ℕ
escaped [] = []
escaped (b ∷ bs) = escaped_byte b ++ escaped bs

-- the member of that name in the object at a place
abbrev pub under : List ℕ → List ℕ → List ℕ
under at name = at ++ 47 ∷ escaped name

-- the element of that index in the array at a place
abbrev pub element : List ℕ → ℕ → List ℕ
element at i = at ++ 47 ∷ decimal i
