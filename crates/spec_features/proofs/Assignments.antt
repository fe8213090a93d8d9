-- The assignment of a list of states, and of one list behind another.
use Rattle.std.proofs.Common.{◌≡◌, ℕ, zero, suc, ◌+◌, ◌<◌, ◌≤◌, Bool, false, List, [], ◌∷◌, ◌++◌, length, refl, sym, ap, ◌∙◌, subst, arith, add-one, append_assoc, ◌==◌, true}
use Rattle.std.specs.Prelude.{slice_index_or}
use Rattle.std.proofs.lemmas.Bool.{eqb-false}
use Rattle.std.proofs.lemmas.Bool.Decides.{Decides-eqb}
use Rattle.std.proofs.lemmas.List.{length-append, get_or_append_left}
use Rattle.std.proofs.Math.Seq.{get_or-append_seam}
use Rattle.spec_refutation.specs.First.{assignment}
use Rattle.spec_refutation.proofs.Agreement.{Agree}
use Rattle.spec_features.proofs.Encoding.{Carries}

pub assignment_at : (xs : List Bool) (k : ℕ) → assignment xs (k + 1) ≡ slice_index_or xs k false
assignment_at xs k = rw add-one refl

-- more states behind a list change nothing of those in it
pub more_agree : (n : ℕ) (g more : List Bool) → n ≤ length g → Agree n (assignment g) (assignment (g ++ more))
more_agree n g more le zero some low = absurd (omega (arith, some))
more_agree n g more le (suc k) some low = sym (get_or_append_left g more false k (omega (arith, low, le)))

abbrev pub agree_from : (n : ℕ) (xs ys : List Bool) → ((k : ℕ) → k < n → slice_index_or xs k false ≡ slice_index_or ys k false) → Agree n (assignment xs) (assignment ys)
agree_from n xs ys same zero some low = absurd (omega (arith, some))
agree_from n xs ys same (suc k) some low = same k (omega (arith, low))

-- a list behind another is carried
pub carried : (g xs : List Bool) → Carries (assignment (g ++ xs)) (length g) xs
carried g [] = tt
carried g (x ∷ xs) =
    let P : List Bool → Type 0 = λ all. Carries (assignment all) (length g + 1) xs in
    let Q : ℕ → Type 0 = λ n. Carries (assignment ((g ++ x ∷ []) ++ xs)) n xs in (
      assignment_at (g ++ x ∷ xs) (length g) ∙ get_or-append_seam g x xs false,
      subst P (append_assoc g (x ∷ []) xs) (subst Q (length-append g (x ∷ [])) (carried (g ++ x ∷ []) xs)),
    )

-- and no other list of its length is
pub carried_is : (g others xs : List Bool) → length others ≡ length xs → Carries (assignment (g ++ others)) (length g) xs → others ≡ xs
carried_is g [] [] e c = refl
carried_is g [] (x ∷ xs) e c = absurd (omega (arith, e))
carried_is g (o ∷ os) [] e c = absurd (omega (arith, e))
carried_is g (o ∷ os) (x ∷ xs) e c =
    let P : List Bool → Type 0 = λ all. Carries (assignment all) (length g + 1) xs in
    let Q : ℕ → Type 0 = λ n. Carries (assignment ((g ++ o ∷ []) ++ os)) n xs in
    let same : o ≡ x = sym (get_or-append_seam g o os false) ∙ sym (assignment_at (g ++ o ∷ os) (length g)) ∙ c.0 in
    let rest : os ≡ xs = carried_is (g ++ o ∷ []) os xs (omega (arith, e))
    (subst Q (sym (length-append g (o ∷ []))) (subst P (sym (append_assoc g (o ∷ []) os)) c.1)) in
    ap (λ b. b ∷ os) same ∙ ap (λ bs. x ∷ bs) rest

-- assignments that carry one list agree where it stands
pub carried_agree : (v w : ℕ → Bool) (last : ℕ) (xs : List Bool) → Carries v last xs → Carries w last xs → (k : ℕ) → last ≤ k → k < last + length xs → v (k + 1) ≡ w (k + 1)
carried_agree v w last [] c d k low high = absurd (omega (arith, low, high))
carried_agree v w last (x ∷ xs) c d k low high = go (last == k) refl (carried_agree v w (last + 1) xs c.1 d.1 k)
  where
    go : (b : Bool) → (last == k) ≡ b → (last + 1 ≤ k → k < last + 1 + length xs → v (k + 1) ≡ w (k + 1)) → v (k + 1) ≡ w (k + 1)
    go true e later = let same : last ≡ k = (Decides-eqb last k).0 e in let P : ℕ → Type 0 = λ n. v (n + 1) ≡ w (n + 1) in subst P same (c.0 ∙ sym d.0)
    go false e later = later (omega (arith, eqb-false last k e, low)) (omega (arith, high))
