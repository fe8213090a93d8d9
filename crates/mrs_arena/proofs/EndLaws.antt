-- Laws of the ends of subtrees.
use Rattle.std.proofs.Common.{◌≡◌, ◌∙◌, sym, ap, refl, subst, ℕ, zero, suc, ◌+◌, ◌-◌, ◌<◌, ◌≤◌, true, false, List, length, drop, get_or, Option, Some, None, arith, ◌⊎◌, inl, inr, Contains, length-drop, not, ◌≢◌, cond, add-zero}
use Rattle.std.specs.List.{position_or_len}
use Rattle.std.proofs.lemmas.Bool.{cases_lt, cases_eq, ltb-false, le-ltb}
use Rattle.std.proofs.lemmas.List.{get_or-drop, drop_more, drop_all}
use Rattle.std.proofs.lemmas.List.Sums.{prefix_len-le-length, fails_before_first, passes_at_first}
use Rattle.mrs_arena.specs.Paths.{ancestors, IsPreorder, is_outside, end_of, IsSubtree}
use Rattle.mrs_arena.proofs.PathLaws.{IsAbove, ancestors-self, ancestors-above, ancestors-cases, ancestors-le, ancestors-trans}
use Rattle.mrs_arena.proofs.PreorderLaws.{IsPreorder-parent, IsPreorder-before}

-- a subtree has its node, and ends within the nodes
pub end_of-above : (parents : List (Option ℕ)) (n : ℕ) → n < end_of parents n
unfolding end_of
end_of-above parents n = omega arith

pub end_of-le : (parents : List (Option ℕ)) (n : ℕ) → n < length parents → end_of parents n ≤ length parents
unfolding end_of
end_of-le parents n h = omega (arith, prefix_len-le-length (λ p. not (is_outside n p)) (drop (n + 1) parents), length-drop (n + 1) parents)

-- the parents of the other nodes of the subtree are in it
pub end_of-inside : (parents : List (Option ℕ)) (n m : ℕ) → n < m → m < end_of parents n → is_outside n (get_or parents m None) ≡ false
unfolding end_of
end_of-inside parents n m after before =
    let place : n + 1 + (m - (n + 1)) ≡ m = omega arith in
    ap (λ k. is_outside n (get_or parents k None)) (sym place)
    ∙ ap (is_outside n) (sym (get_or-drop (n + 1) parents (m - (n + 1)) None))
    ∙ fails_before_first (is_outside n) (drop (n + 1) parents) (m - (n + 1)) None (omega arith)

-- and that of the node behind it is not
pub end_of-outside : (parents : List (Option ℕ)) (n : ℕ) → end_of parents n < length parents → is_outside n (get_or parents (end_of parents n) None) ≡ true
unfolding end_of
end_of-outside parents n within =
    ap (is_outside n) (sym (get_or-drop (n + 1) parents (position_or_len (is_outside n) (drop (n + 1) parents)) None))
    ∙ passes_at_first (is_outside n) (drop (n + 1) parents) None (omega (arith, length-drop (n + 1) parents))

-- ---- a subtree is the nodes that have its node on their path

pub record IsInside (n : ℕ) (parent : Option ℕ) : Type 0 where
  pub number : ℕ
  pub is_parent : parent ≡ Some number
  pub from : n ≤ number

pub IsInside-from : (n : ℕ) (parent : Option ℕ) → is_outside n parent ≡ false → IsInside n parent
IsInside-from n None h = absurd (cc)
IsInside-from n (Some p) h = record { number = p; is_parent = refl; from = ltb-false p n h }

below_end : (bound : ℕ) (parents : List (Option ℕ)) (n m : ℕ) → m < bound → IsPreorder parents → m < length parents → n ≤ m → m < end_of parents n → Contains (ancestors parents m) n
below_end zero parents n m h order within from before = absurd (omega arith)
below_end (suc bound) parents n m h order within from before = go (λ q lt. below_end bound parents n q lt order) (cases_eq n m)
  where
    go : ((q : ℕ) → q < bound → q < length parents → n ≤ q → q < end_of parents n → Contains (ancestors parents q) n) → (n ≡ m) ⊎ (n ≢ m) → Contains (ancestors parents m) n
    go further (inl same) = subst (λ (j : ℕ). Contains (ancestors parents m) j) (sym same) (ancestors-self parents m within)
    go further (inr apart) =
        let inside = IsInside-from n (get_or parents m None) (end_of-inside parents n m (omega arith) before) in
        let low = IsPreorder-parent parents m inside.number order within inside.is_parent in
        let from = inside.from in
        ancestors-above parents m inside.number n within inside.is_parent low (further inside.number (omega arith) (omega arith) inside.from (omega arith))

-- the nodes between a node and one above it have the upper one on their path
between : (count : ℕ) (parents : List (Option ℕ)) (n j m : ℕ) → j + count ≡ m → IsPreorder parents → m < length parents → n < j → Contains (ancestors parents m) n → Contains (ancestors parents j) n
between zero parents n j m e order within after on = let same : m ≡ j = omega arith in subst (λ (k : ℕ). Contains (ancestors parents k) n) same on
between (suc count) parents n j m e order within after on =
    between count parents n j (m - 1) (omega arith) order (omega arith) after (go (ancestors-cases parents m n on))
  where
    go : (n ≡ m) ⊎ IsAbove parents m n → Contains (ancestors parents (m - 1)) n
    go (inl same) = absurd (omega arith)
    go (inr above) = ancestors-trans parents (m - 1) above.parent n (IsPreorder-before parents m above.parent order within above.is_parent) above.on

-- so the parent of each of them is the upper one or comes after it
above_inside : (parents : List (Option ℕ)) (n j : ℕ) → n < j → Contains (ancestors parents j) n → is_outside n (get_or parents j None) ≡ false
above_inside parents n j after on = go (ancestors-cases parents j n on)
  where
    go : (n ≡ j) ⊎ IsAbove parents j n → is_outside n (get_or parents j None) ≡ false
    go (inl same) = absurd (omega arith)
    go (inr above) = ap (is_outside n) above.is_parent ∙ le-ltb above.parent n (ancestors-le parents above.parent n above.on)

above_end : (parents : List (Option ℕ)) (n m : ℕ) → IsPreorder parents → m < length parents → Contains (ancestors parents m) n → m < end_of parents n
above_end parents n m order within on = go (cases_lt m (end_of parents n))
  where
    go : (m < end_of parents n) ⊎ (end_of parents n ≤ m) → m < end_of parents n
    go (inl before) = before
    go (inr past) =
        let end = end_of parents n in
        let after = end_of-above parents n in
        let here = between (m - end) parents n end m (omega arith) order within after on in
        absurd (let out = end_of-outside parents n (omega arith) in let in' = above_inside parents n end after here in cc)

pub end_of-subtree : (parents : List (Option ℕ)) (n : ℕ) → IsPreorder parents → IsSubtree parents n (end_of parents n)
end_of-subtree parents n order m within =
    (λ h. below_end (suc m) parents n m (omega arith) order within h.0 h.1, λ on. (ancestors-le parents m n on, above_end parents n m order within on))

-- ---- how ends are found, from the last node back

-- the first node from m on whose parent is outside n
abbrev pub end_past : List (Option ℕ) → ℕ → ℕ → ℕ
end_past parents n m = m + position_or_len (is_outside n) (drop m parents)

pub end_past-start : (parents : List (Option ℕ)) (n : ℕ) → end_past parents n (n + 1) ≡ end_of parents n
unfolding end_of
end_past-start parents n = refl

pub end_past-all : (parents : List (Option ℕ)) (n m : ℕ) → length parents ≤ m → end_past parents n m ≡ m
end_past-all parents n m past = ap (λ rest. m + position_or_len (is_outside n) rest) (drop_all m parents past) ∙ add-zero m

pub end_past-outside : (parents : List (Option ℕ)) (n m : ℕ) → m < length parents → is_outside n (get_or parents m None) ≡ true → end_past parents n m ≡ m
end_past-outside parents n m within out =
    ap (λ rest. m + position_or_len (is_outside n) rest) (drop_more parents m None within)
    ∙ ap (λ b. m + cond (not b) (1 + position_or_len (is_outside n) (drop (m + 1) parents)) 0) out ∙ add-zero m

end_past-more : (parents : List (Option ℕ)) (n m : ℕ) → m < length parents → is_outside n (get_or parents m None) ≡ false → end_past parents n m ≡ end_past parents n (m + 1)
end_past-more parents n m within inside =
    let next : m + (1 + position_or_len (is_outside n) (drop (m + 1) parents)) ≡ m + 1 + position_or_len (is_outside n) (drop (m + 1) parents) = omega arith in
    ap (λ rest. m + position_or_len (is_outside n) rest) (drop_more parents m None within)
    ∙ ap (λ b. m + cond (not b) (1 + position_or_len (is_outside n) (drop (m + 1) parents)) 0) inside ∙ next

end_past-run : (count : ℕ) (parents : List (Option ℕ)) (n m : ℕ) → m + count ≤ length parents → ((j : ℕ) → m ≤ j → j < m + count → is_outside n (get_or parents j None) ≡ false) → end_past parents n m ≡ end_past parents n (m + count)
end_past-run zero parents n m within inside = ap (λ k. end_past parents n k) (sym (add-zero m))
end_past-run (suc count) parents n m within inside =
    let next : m + 1 + count ≡ m + suc count = omega arith in
    end_past-more parents n m (omega arith) (inside m (omega arith) (omega arith))
    ∙ end_past-run count parents n (m + 1) (omega arith) (λ j from before. inside j (omega arith) (omega arith))
    ∙ ap (λ k. end_past parents n k) next

inside_further : (n m : ℕ) (parent : Option ℕ) → n ≤ m → is_outside m parent ≡ false → is_outside n parent ≡ false
inside_further n m None h inside = inside
inside_further n m (Some p) h inside = le-ltb p n (let low = ltb-false p m inside in omega arith)

-- the subtree of a node inside n is passed over whole
pub end_past-subtree : (parents : List (Option ℕ)) (n m : ℕ) → n < m → m < length parents → is_outside n (get_or parents m None) ≡ false → end_past parents n m ≡ end_past parents n (end_of parents m)
end_past-subtree parents n m after within inside =
    let above = end_of-above parents m in
    let low = end_of-le parents m within in
    let size : m + (end_of parents m - m) ≡ end_of parents m = omega arith in
    end_past-run (end_of parents m - m) parents n m (omega arith) (λ j from before. each j from (omega arith) (cases_eq m j)) ∙ ap (λ k. end_past parents n k) size
  where
    each : (j : ℕ) → m ≤ j → j < end_of parents m → (m ≡ j) ⊎ (m ≢ j) → is_outside n (get_or parents j None) ≡ false
    each j from before (inl same) = ap (λ k. is_outside n (get_or parents k None)) (sym same) ∙ inside
    each j from before (inr apart) = inside_further n m (get_or parents j None) (omega arith) (end_of-inside parents m j (omega arith) before)
