-- Laws of paths.
use Rattle.std.proofs.Common.{◌≡◌, ◌∙◌, sym, ap, refl, subst, ℕ, zero, suc, ◌+◌, ◌<◌, ◌≤◌, List, [], ◌∷◌, ◌++◌, length, take, drop, get_or, Option, Some, None, arith, append_assoc, length-append, ◌⊎◌, inl, inr, Contains, All}
use Rattle.std.proofs.lemmas.Bool.{cases_lt}
use Rattle.std.proofs.lemmas.List.{get_or_append_left, get_or_push, get_or_past, length_push, take-append-drop, drop_more, length-take-le, length-take}
use Rattle.std.proofs.lemmas.List.Elements.{Contains-get_or, Contains-append_right, Contains-append_cases}
use Rattle.mrs_arena.specs.Paths.{path_from, paths_after, path_up, ancestors}

-- ---- the paths of all nodes

pub length-paths_after : (paths : List (List ℕ)) (parents : List (Option ℕ)) → length (paths_after paths parents) ≡ length paths + length parents
length-paths_after paths [] = omega arith
length-paths_after paths (p ∷ ps) = omega (arith, length-paths_after (paths ++ (length paths ∷ path_from paths p) ∷ []) ps, length_push paths (length paths ∷ path_from paths p))

-- a path stays as it is while more nodes are put
paths_after-kept : (paths : List (List ℕ)) (parents : List (Option ℕ)) (k : ℕ) → k < length paths → get_or (paths_after paths parents) k [] ≡ get_or paths k []
paths_after-kept paths [] k h = refl
paths_after-kept paths (p ∷ ps) k h =
    let path = (length paths ∷ path_from paths p) ∷ [] in
    paths_after-kept (paths ++ path) ps k (omega (arith, length-append paths path)) ∙ get_or_append_left paths path [] k h

paths_after-append : (paths : List (List ℕ)) (parents more : List (Option ℕ)) → paths_after paths (parents ++ more) ≡ paths_after (paths_after paths parents) more
paths_after-append paths [] more = refl
paths_after-append paths (p ∷ ps) more = paths_after-append (paths ++ (length paths ∷ path_from paths p) ∷ []) ps more

-- ---- the path of one node

-- nodes that come later are on no path of an earlier one
pub ancestors-append : (parents more : List (Option ℕ)) (k : ℕ) → k < length parents → ancestors (parents ++ more) k ≡ ancestors parents k
unfolding ancestors
ancestors-append parents more k h =
    ap (λ paths. get_or paths k []) (paths_after-append [] parents more)
    ∙ paths_after-kept (paths_after [] parents) more k (omega (arith, length-paths_after [] parents))

-- the path of the last node is the node and then the path of its parent
pub ancestors-push : (parents : List (Option ℕ)) (parent : Option ℕ) → ancestors (parents ++ parent ∷ []) (length parents) ≡ length parents ∷ path_up parents parent
unfolding ancestors
ancestors-push parents parent =
    let paths = paths_after [] parents in
    let count : length paths ≡ length parents = omega (arith, length-paths_after [] parents) in
    ap (λ ps. get_or ps (length parents) []) (paths_after-append [] parents (parent ∷ []))
    ∙ get_or_push paths (length paths ∷ path_from paths parent) [] (length parents) count
    ∙ ap (λ n. n ∷ path_from paths parent) count
    ∙ ap (λ path. length parents ∷ path) (same parent)
  where
    same : (p : Option ℕ) → path_from (paths_after [] parents) p ≡ path_up parents p
    same None = refl
    same (Some k) = refl

-- there is no path where there is no node
pub ancestors-past : (parents : List (Option ℕ)) (k : ℕ) → length parents ≤ k → ancestors parents k ≡ []
unfolding ancestors
ancestors-past parents k h = get_or_past (paths_after [] parents) k [] (omega (arith, length-paths_after [] parents))

-- the nodes before node n, node n's parent, and the nodes after it
pub parents-split : (parents : List (Option ℕ)) (n : ℕ) → n < length parents → parents ≡ take n parents ++ get_or parents n None ∷ [] ++ drop (n + 1) parents
parents-split parents n h =
    sym (take-append-drop n parents) ∙ ap (λ rest. take n parents ++ rest) (drop_more parents n None h) ∙ sym (append_assoc (take n parents) (get_or parents n None ∷ []) (drop (n + 1) parents))

ancestors-front : (parents : List (Option ℕ)) (n : ℕ) → n < length parents → ancestors parents n ≡ n ∷ path_up (take n parents) (get_or parents n None)
ancestors-front parents n h =
    let front = take n parents in
    let parent = get_or parents n None in
    let count : length front ≡ n = length-take-le n parents (omega arith) in
    ap (λ ps. ancestors ps n) (parents-split parents n h)
    ∙ ancestors-append (front ++ parent ∷ []) (drop (n + 1) parents) n (omega (arith, length_push front parent))
    ∙ ap (λ k. ancestors (front ++ parent ∷ []) k) (sym count)
    ∙ ancestors-push front parent
    ∙ ap (λ k. k ∷ path_up front parent) count

-- ---- what is on a path

Contains-one : (x k : ℕ) → Contains (x ∷ []) k → k ≡ x
Contains-one x k h = at h.0 h.1 h.2
  where
    at : (i : ℕ) → i < 1 → get_or (x ∷ []) i k ≡ k → k ≡ x
    at zero lt e = sym e
    at (suc i) lt e = absurd (omega arith)

pub Contains-cons : (x : ℕ) (xs : List ℕ) (k : ℕ) → Contains (x ∷ xs) k → (k ≡ x) ⊎ Contains xs k
Contains-cons x xs k h = go (Contains-append_cases (x ∷ []) xs k h)
  where
    go : Contains (x ∷ []) k ⊎ Contains xs k → (k ≡ x) ⊎ Contains xs k
    go (inl first) = inl (Contains-one x k first)
    go (inr later) = inr later

pub Contains-here : (x : ℕ) (xs : List ℕ) → Contains (x ∷ xs) x
Contains-here x xs = (0, omega arith, refl)

pub Contains-there : (x : ℕ) (xs : List ℕ) (k : ℕ) → Contains xs k → Contains (x ∷ xs) k
Contains-there x xs k h = Contains-append_right (x ∷ []) xs k h

pub Contains-none : (k : ℕ) → Contains [] k → ⊥
Contains-none k h = omega (arith, h.1)

at_path : {first second : List ℕ} {k : ℕ} → first ≡ second → Contains first k → Contains second k
at_path {first} {second} {k} e on = subst (λ (path : List ℕ). Contains path k) e on

-- what is on a node's path is the node, or is on the path of its parent
pub record IsAbove (parents : List (Option ℕ)) (n k : ℕ) : Type 0 where
  pub parent : ℕ
  pub is_parent : get_or parents n None ≡ Some parent
  pub before : parent < n
  pub on : Contains (ancestors parents parent) k

pub ancestors-take : (parents : List (Option ℕ)) (n k : ℕ) → k < n → n ≤ length parents → ancestors (take n parents) k ≡ ancestors parents k
ancestors-take parents n k before within =
    let count : length (take n parents) ≡ n = length-take-le n parents within in
    sym (ancestors-append (take n parents) (drop n parents) k (omega arith)) ∙ ap (λ ps. ancestors ps k) (take-append-drop n parents)

path_up-above : (parents : List (Option ℕ)) (n k : ℕ) (p : Option ℕ) → get_or parents n None ≡ p → n < length parents → Contains (path_up (take n parents) p) k → IsAbove parents n k
path_up-above parents n k None e within on = absurd (Contains-none k on)
path_up-above parents n k (Some q) e within on = go (cases_lt q n)
  where
    go : (q < n) ⊎ (n ≤ q) → IsAbove parents n k
    go (inl before) = record { parent = q; is_parent = e; before = before; on = at_path (ancestors-take parents n q before (omega arith)) on }
    go (inr past) = absurd (Contains-none k (at_path (ancestors-past (take n parents) q (omega (arith, length-take n parents))) on))

pub ancestors-cases : (parents : List (Option ℕ)) (n k : ℕ) → Contains (ancestors parents n) k → (k ≡ n) ⊎ IsAbove parents n k
ancestors-cases parents n k on = go (cases_lt n (length parents))
  where
    split : n < length parents → (k ≡ n) ⊎ Contains (path_up (take n parents) (get_or parents n None)) k → (k ≡ n) ⊎ IsAbove parents n k
    split within (inl same) = inl same
    split within (inr above) = inr (path_up-above parents n k (get_or parents n None) refl within above)

    go : (n < length parents) ⊎ (length parents ≤ n) → (k ≡ n) ⊎ IsAbove parents n k
    go (inl within) = split within (Contains-cons n (path_up (take n parents) (get_or parents n None)) k (at_path (ancestors-front parents n within) on))
    go (inr past) = absurd (Contains-none k (at_path (ancestors-past parents n past) on))

-- the nodes of a path have no higher numbers than the node whose path it is
ancestors-below : (bound : ℕ) (parents : List (Option ℕ)) (n k : ℕ) → n < bound → Contains (ancestors parents n) k → k ≤ n
ancestors-below zero parents n k h on = absurd (omega arith)
ancestors-below (suc bound) parents n k h on = go (λ q. ancestors-below bound parents q k) (ancestors-cases parents n k on)
  where
    go : ((q : ℕ) → q < bound → Contains (ancestors parents q) k → k ≤ q) → (k ≡ n) ⊎ IsAbove parents n k → k ≤ n
    go below (inl same) = omega arith
    go below (inr above) = let before = above.before in omega (arith, below above.parent (omega arith) above.on)

pub ancestors-le : (parents : List (Option ℕ)) (n k : ℕ) → Contains (ancestors parents n) k → k ≤ n
ancestors-le parents n k on = ancestors-below (suc n) parents n k (omega arith) on

-- a node is on its own path
pub ancestors-self : (parents : List (Option ℕ)) (n : ℕ) → n < length parents → Contains (ancestors parents n) n
ancestors-self parents n within = at_path (sym (ancestors-front parents n within)) (Contains-here n (path_up (take n parents) (get_or parents n None)))

-- and what is on the path of its parent is on its own
pub ancestors-above : (parents : List (Option ℕ)) (n q k : ℕ) → n < length parents → get_or parents n None ≡ Some q → q < n → Contains (ancestors parents q) k → Contains (ancestors parents n) k
ancestors-above parents n q k within e before on =
    let up = at_path (sym (ancestors-take parents n q before (omega arith))) on in
    at_path (sym (ap (λ p. n ∷ path_up (take n parents) p) e) ∙ sym (ancestors-front parents n within)) (Contains-there n (ancestors (take n parents) q) k up)

-- a path holds the paths of its nodes
ancestors-through : (bound : ℕ) (parents : List (Option ℕ)) (m n k : ℕ) → m < bound → Contains (ancestors parents m) n → Contains (ancestors parents n) k → Contains (ancestors parents m) k
ancestors-through zero parents m n k h first second = absurd (omega arith)
ancestors-through (suc bound) parents m n k h first second = go (λ q lt on. ancestors-through bound parents q n k lt on second) (ancestors-cases parents m n first)
  where
    within : IsAbove parents m n → m < length parents
    within above = split (cases_lt m (length parents))
      where
        split : (m < length parents) ⊎ (length parents ≤ m) → m < length parents
        split (inl lt) = lt
        split (inr past) = absurd (let none = get_or_past parents m None past in let some = above.is_parent in cc)

    go : ((q : ℕ) → q < bound → Contains (ancestors parents q) n → Contains (ancestors parents q) k) → (n ≡ m) ⊎ IsAbove parents m n → Contains (ancestors parents m) k
    go further (inl same) = subst (λ (j : ℕ). Contains (ancestors parents j) k) same second
    go further (inr above) = let before = above.before in ancestors-above parents m above.parent k (within above) above.is_parent above.before (further above.parent (omega arith) above.on)

pub ancestors-trans : (parents : List (Option ℕ)) (m n k : ℕ) → Contains (ancestors parents m) n → Contains (ancestors parents n) k → Contains (ancestors parents m) k
ancestors-trans parents m n k first second = ancestors-through (suc m) parents m n k (omega arith) first second

-- a path goes on with that of the parent
pub ancestors-step : (parents : List (Option ℕ)) (n : ℕ) → n < length parents → ((p : ℕ) → get_or parents n None ≡ Some p → p < n) → ancestors parents n ≡ n ∷ path_up parents (get_or parents n None)
ancestors-step parents n within before = ancestors-front parents n within ∙ ap (λ path. n ∷ path) (go (get_or parents n None) before)
  where
    go : (parent : Option ℕ) → ((p : ℕ) → parent ≡ Some p → p < n) → path_up (take n parents) parent ≡ path_up parents parent
    go None low = refl
    go (Some p) low = ancestors-take parents n p (low p refl) (omega arith)

-- and is no longer than the numbers up to its node
length-below : (bound : ℕ) (parents : List (Option ℕ)) (n : ℕ) → n < bound → length (ancestors parents n) ≤ n + 1
length-below zero parents n h = absurd (omega arith)
length-below (suc bound) parents n h = go (λ ps p lt. length-below bound ps p lt) (cases_lt n (length parents))
  where
    up : ((ps : List (Option ℕ)) (p : ℕ) → p < bound → length (ancestors ps p) ≤ p + 1) → (parent : Option ℕ) → length (path_up (take n parents) parent) ≤ n
    up below None = omega arith
    up below (Some p) = split (cases_lt p n)
      where
        split : (p < n) ⊎ (n ≤ p) → length (ancestors (take n parents) p) ≤ n
        split (inl before) = omega (arith, below (take n parents) p (omega arith))
        split (inr past) = omega (arith, ap length (ancestors-past (take n parents) p (omega (arith, length-take n parents))))

    go : ((ps : List (Option ℕ)) (p : ℕ) → p < bound → length (ancestors ps p) ≤ p + 1) → (n < length parents) ⊎ (length parents ≤ n) → length (ancestors parents n) ≤ n + 1
    go below (inl within) = omega (arith, ap length (ancestors-front parents n within), up below (get_or parents n None))
    go below (inr past) = omega (arith, ap length (ancestors-past parents n past))

pub length-ancestors : (parents : List (Option ℕ)) (n : ℕ) → length (ancestors parents n) ≤ n + 1
length-ancestors parents n = length-below (suc n) parents n (omega arith)

-- none of its numbers is above its node's
pub ancestors-all : (parents : List (Option ℕ)) (n : ℕ) → All (λ k. k ≤ n) (ancestors parents n)
ancestors-all parents n k d h = ancestors-le parents n (get_or (ancestors parents n) k d) (Contains-get_or (ancestors parents n) k d h)
