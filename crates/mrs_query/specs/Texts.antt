-- Texts that go out part by part.
use Rattle.std.specs.Prelude.{ℕ, List, flat_map}

-- the parts of a text, joined
abbrev pub joined : List (List ℕ) → List ℕ
joined parts = flat_map (λ part. part) parts
