-- Lists of keys as references and as their texts.
use Rattle.std.proofs.Common.{◌≡◌, ℕ, ◌||◌, Bool, List, [], ◌∷◌, Bor, map, bytes_eq, refl, ap}
use Rattle.std.specs.List.{list_any}
use Rattle.spec_command.specs.Commands.{is_one_of}

pub among_keys : (text : List ℕ) (keys : List (Bor (List ℕ))) → is_one_of (map (λ one. one.now) keys) text ≡ list_any (λ one. bytes_eq one.now text) keys
among_keys text [] = refl
among_keys text (key ∷ keys) = ap (λ (b : Bool). bytes_eq key.now text || b) (among_keys text keys)
