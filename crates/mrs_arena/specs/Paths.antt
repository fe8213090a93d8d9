-- Paths in an array of nodes, of which only the parents matter: a parent is the number of the node above, and the root has none.
use Rattle.std.specs.Prelude.{◌≡◌, ℕ, ◌+◌, ◌-◌, ◌<◌, ◌≤◌, ◌↔◌, Bool, true, nat_lt, List, [], ◌∷◌, ◌++◌, length, take, drop, Contains, slice_index_or, Option, Some, None}
use Rattle.std.specs.List.{position_or_len}

-- the path up from a node that may be there, given the paths of the nodes
abbrev pub path_from : List (List ℕ) → Option ℕ → List ℕ
path_from paths None = []
path_from paths (Some k) = slice_index_or paths k []

-- the paths of the nodes, behind those before them: each is the node and then the path of its parent
abbrev pub paths_after : List (List ℕ) → List (Option ℕ) → List (List ℕ)
paths_after paths [] = paths
paths_after paths (parent ∷ parents) = paths_after (paths ++ (length paths ∷ path_from paths parent) ∷ []) parents

-- the nodes from a node up to the root; none where there is no such node
unfoldable pub ancestors : List (Option ℕ) → ℕ → List ℕ
ancestors parents n = slice_index_or (paths_after [] parents) n []

-- the path up from a node that may be there
abbrev pub path_up : List (Option ℕ) → Option ℕ → List ℕ
path_up parents None = []
path_up parents (Some n) = ancestors parents n

-- the path of the last node
abbrev pub last_path : List (Option ℕ) → List ℕ
last_path parents = ancestors parents (length parents - 1)

-- where a node may be put: the first has no parent, and each later one hangs below the last node or a node above that
abbrev pub IsPlace : List (Option ℕ) → Option ℕ → Type 0
IsPlace parents None = parents ≡ []
IsPlace parents (Some p) = Contains (last_path parents) p

-- each node was put where one may be, so nodes stand in the order in which one comes to them going down
abbrev pub IsPreorder : List (Option ℕ) → Type 0
IsPreorder parents = (n : ℕ) → n < length parents → IsPlace (take n parents) (slice_index_or parents n None)

-- a node above node n, or none, is the parent
abbrev pub is_outside : ℕ → Option ℕ → Bool
is_outside n None = true
is_outside n (Some parent) = nat_lt parent n

-- the number after the subtree of node n: that of the first node after n that hangs below none of n and the nodes after it, or the count
unfoldable pub end_of : List (Option ℕ) → ℕ → ℕ
end_of parents n = n + 1 + position_or_len (is_outside n) (drop (n + 1) parents)

-- the nodes from n on that come before `end` are those that have n on their path
abbrev pub IsSubtree : List (Option ℕ) → ℕ → ℕ → Type 0
IsSubtree parents n end = (m : ℕ) → m < length parents → ((n ≤ m) × (m < end)) ↔ Contains (ancestors parents m) n
