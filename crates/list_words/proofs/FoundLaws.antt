-- What is found, as a line tells it.
use Rattle.std.proofs.Common.{◌≡◌, refl, subst, sym, ℕ, ◌<◌, List, [], ◌∷◌, ◌++◌, length, All, arith}
use Rattle.std.specs.Prelude.{codes, flat_map}
use Rattle.spec_expressions.specs.Scope.{Configuration}
use Rattle.spec_instructions.specs.Tree.{Own}
use Rattle.spec_decode.specs.Found.{Candidate, found}
use Rattle.spec_decode.proofs.FoundLaws.{found_is_exact}
use Rattle.spec_lines.specs.FullLine.{leaves_text, candidate}
use Rattle.spec_decode.specs.Machine.{Machine}
use Rattle.spec_lines.specs.BareLine.{bare_leaves, word_text}

-- two or more are told one by one
pub several_told : (machine : Machine) (w : ℕ) (cs : List Candidate) → 1 < length cs → leaves_text machine w cs ≡ codes "many" ++ flat_map (candidate machine.paths) cs
several_told machine w [] h = absurd (omega arith)
several_told machine w (c ∷ []) h = absurd (omega arith)
several_told machine w (c ∷ d ∷ cs) h = refl

-- and a bare line tells the word
pub several_bare : (machine : Machine) (w : ℕ) (cs : List Candidate) → 1 < length cs → bare_leaves machine w cs ≡ word_text w
several_bare machine w [] h = absurd (omega arith)
several_bare machine w (c ∷ []) h = absurd (omega arith)
several_bare machine w (c ∷ d ∷ cs) h = refl

-- each leaf that is found is one of the paths'
pub all_within : (paths : List (List Own)) (g : Configuration) (w : ℕ) (cs : List Candidate) → cs ≡ found paths g w → All (λ (c : Candidate). c.leaf < length paths) cs
all_within paths g w cs e = subst (All (λ (c : Candidate). c.leaf < length paths)) (sym e) (λ k d lt. ((found_is_exact paths g w).each k d lt).0)
