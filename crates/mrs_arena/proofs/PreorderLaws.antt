-- Laws of preorder: where a node may be put, and what follows for its parent.
use Rattle.std.proofs.Common.{◌≡◌, ◌∙◌, sym, ap, subst, ℕ, ◌-◌, ◌<◌, ◌≤◌, List, [], ◌∷◌, ◌++◌, length, take, get_or, Option, Some, None, arith, ◌⊎◌, inl, inr, Contains, length-append, length-take}
use Rattle.std.proofs.lemmas.Bool.{cases_lt}
use Rattle.std.proofs.lemmas.List.{get_or_append_left, get_or_push, length_push, take-append-le, take_at}
use Rattle.mrs_arena.specs.Paths.{path_up, ancestors, last_path, IsPlace, IsPreorder}
use Rattle.mrs_arena.proofs.PathLaws.{ancestors-push, ancestors-past, ancestors-le, ancestors-take, ancestors-trans, Contains-here, Contains-there, Contains-none}

-- ---- places

-- a node may be put below nodes that are there
pub IsPlace-lt : (parents : List (Option ℕ)) (p : ℕ) → IsPlace parents (Some p) → p < length parents
IsPlace-lt parents p place = go (cases_lt 0 (length parents))
  where
    go : (0 < length parents) ⊎ (length parents ≤ 0) → p < length parents
    go (inl some) = let low = ancestors-le parents (length parents - 1) p place in omega arith
    go (inr none) = absurd (Contains-none p (subst (λ (path : List ℕ). Contains path p) (ancestors-past parents (length parents - 1) (omega arith)) place))

-- the path of a node that is put last
pub last_path-push : (parents : List (Option ℕ)) (parent : Option ℕ) → last_path (parents ++ parent ∷ []) ≡ length parents ∷ path_up parents parent
last_path-push parents parent =
    let last : length (parents ++ parent ∷ []) - 1 ≡ length parents = omega (arith, length_push parents parent) in
    ap (λ n. ancestors (parents ++ parent ∷ []) n) last ∙ ancestors-push parents parent

-- a node may be put below the last one
pub IsPlace-last : (parents : List (Option ℕ)) (parent : Option ℕ) → IsPlace (parents ++ parent ∷ []) (Some (length parents))
IsPlace-last parents parent = subst (λ (path : List ℕ). Contains path (length parents)) (sym (last_path-push parents parent)) (Contains-here (length parents) (path_up parents parent))

-- and below its parent, and the nodes above that
pub IsPlace-beside : (parents : List (Option ℕ)) (parent p : ℕ) → Contains (ancestors parents parent) p → IsPlace (parents ++ Some parent ∷ []) (Some p)
IsPlace-beside parents parent p on = subst (λ (path : List ℕ). Contains path p) (sym (last_path-push parents (Some parent))) (Contains-there (length parents) (ancestors parents parent) p on)

-- where a node may be put, one may be put above
pub IsPlace-up : (parents : List (Option ℕ)) (n p : ℕ) → IsPlace parents (Some n) → Contains (ancestors parents n) p → IsPlace parents (Some p)
IsPlace-up parents n p place on = ancestors-trans parents (length parents - 1) n p place on

-- ---- preorder

pub IsPreorder-none : IsPreorder []
IsPreorder-none n h = absurd (omega arith)

pub IsPreorder-push : (parents : List (Option ℕ)) (parent : Option ℕ) → IsPreorder parents → IsPlace parents parent → IsPreorder (parents ++ parent ∷ [])
IsPreorder-push parents parent order place n h = go (cases_lt n (length parents))
  where
    at : (front : List (Option ℕ)) (p : Option ℕ) → take n (parents ++ parent ∷ []) ≡ front → get_or (parents ++ parent ∷ []) n None ≡ p → IsPlace front p → IsPlace (take n (parents ++ parent ∷ [])) (get_or (parents ++ parent ∷ []) n None)
    at front p e f here = subst (λ (q : Option ℕ). IsPlace (take n (parents ++ parent ∷ [])) q) (sym f) (subst (λ (ps : List (Option ℕ)). IsPlace ps p) (sym e) here)

    go : (n < length parents) ⊎ (length parents ≤ n) → IsPlace (take n (parents ++ parent ∷ [])) (get_or (parents ++ parent ∷ []) n None)
    go (inl before) = at (take n parents) (get_or parents n None) (take-append-le n parents (parent ∷ []) (omega arith)) (get_or_append_left parents (parent ∷ []) None n before) (order n before)
    go (inr past) =
        let last : length parents ≡ n = omega (arith, length_push parents parent) in
        at parents parent (take_at parents (parent ∷ []) n last) (get_or_push parents parent None n last) place

-- the first nodes are in preorder too
pub IsPreorder-front : (parents more : List (Option ℕ)) → IsPreorder (parents ++ more) → IsPreorder parents
IsPreorder-front parents more order n h =
    let whole = order n (omega (arith, length-append parents more)) in
    subst (λ (q : Option ℕ). IsPlace (take n parents) q) (get_or_append_left parents more None n h)
    (subst (λ (ps : List (Option ℕ)). IsPlace ps (get_or (parents ++ more) n None)) (take-append-le n parents more (omega arith)) whole)

-- a parent stands before its node, and on the path of the node before that
pub IsPreorder-place : (parents : List (Option ℕ)) (n p : ℕ) → IsPreorder parents → n < length parents → get_or parents n None ≡ Some p → IsPlace (take n parents) (Some p)
IsPreorder-place parents n p order within e = subst (λ (q : Option ℕ). IsPlace (take n parents) q) e (order n within)

pub IsPreorder-parent : (parents : List (Option ℕ)) (n p : ℕ) → IsPreorder parents → n < length parents → get_or parents n None ≡ Some p → p < n
IsPreorder-parent parents n p order within e = omega (arith, length-take n parents, IsPlace-lt (take n parents) p (IsPreorder-place parents n p order within e))

pub IsPreorder-before : (parents : List (Option ℕ)) (n p : ℕ) → IsPreorder parents → n < length parents → get_or parents n None ≡ Some p → Contains (ancestors parents (n - 1)) p
IsPreorder-before parents n p order within e =
    let place = IsPreorder-place parents n p order within e in
    let before = IsPreorder-parent parents n p order within e in
    let last : length (take n parents) - 1 ≡ n - 1 = omega (arith, length-take n parents) in
    subst (λ (path : List ℕ). Contains path p) (ap (λ k. ancestors (take n parents) k) last ∙ ancestors-take parents n (n - 1) (omega arith) (omega arith)) place

-- only the first node has no parent
pub IsPreorder-root : (parents : List (Option ℕ)) (n : ℕ) → IsPreorder parents → n < length parents → get_or parents n None ≡ None → n ≡ 0
IsPreorder-root parents n order within e =
    let none : take n parents ≡ [] = subst (λ (q : Option ℕ). IsPlace (take n parents) q) e (order n within) in
    omega (arith, length-take n parents, ap length none)
