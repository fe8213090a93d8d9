-- The names along a path are those of the parent's path and then the node's.
use Rattle.std.proofs.Common.{◌≡◌, ◌∙◌, sym, ap, refl, ℕ, ◌<◌, List, [], ◌∷◌, ◌++◌, length, map, reverse, get_or, Option, Some, None, IfSome, slice_get, append_assoc, append-nil, subst}
use Rattle.std.specs.Prelude.{flat_map, option_map}
use Rattle.std.proofs.lemmas.Option.{slice_get_within, get_or_from_slice_get, slice_get-map}
use Rattle.std.proofs.lemmas.List.{map-append}
use Rattle.std.proofs.lemmas.Grind.{flat_map-append, reverse_onto}
use Rattle.mrs_arena.specs.Flat.{FlatNode}
use Rattle.mrs_arena.specs.Nodes.{parents_of}
use Rattle.mrs_arena.specs.Paths.{path_up}
use Rattle.mrs_arena.specs.Placed.{text_of, own_of_flat, no_own, own_at}
use Rattle.mrs_arena.proofs.PathLaws.{ancestors-step}
use Rattle.mrs_arena.proofs.NodeLaws.{length-parents_of}
use Rattle.list_words.specs.Down.{names_down}

-- the names down to a node that may be there
abbrev pub names_to : List (List ℕ) → List FlatNode → Option ℕ → List ℕ
names_to names nodes None = []
names_to names nodes (Some p) = names_down names nodes p

abbrev name_in : List (List ℕ) → List FlatNode → ℕ → List ℕ
name_in names nodes n = 32 ∷ (own_at names nodes n).name

abbrev names_along : List (List ℕ) → List FlatNode → List ℕ → List ℕ
names_along names nodes up = flat_map (λ own. 32 ∷ own.name) (map (own_at names nodes) (reverse up))

above : (names : List (List ℕ)) (nodes : List FlatNode) (parent : Option ℕ) → names_along names nodes (path_up (parents_of nodes) parent) ≡ names_to names nodes parent
above names nodes None = refl
above names nodes (Some p) = refl

one_more : (names : List (List ℕ)) (nodes : List FlatNode) (n : ℕ) (up : List ℕ) → names_along names nodes (n ∷ up) ≡ names_along names nodes up ++ name_in names nodes n
one_more names nodes n up =
    ap (λ down. flat_map (λ own. 32 ∷ own.name) (map (own_at names nodes) down)) (reverse_onto up n [])
    ∙ ap (flat_map (λ own. 32 ∷ own.name)) (map-append (own_at names nodes) (reverse up) (n ∷ []))
    ∙ flat_map-append (λ own. 32 ∷ own.name) (map (own_at names nodes) (reverse up)) (own_at names nodes n ∷ [])
    ∙ ap (λ end. names_along names nodes up ++ end) (append-nil (name_in names nodes n))

pub names_down-step : (names : List (List ℕ)) (nodes : List FlatNode) (n : ℕ) (node : FlatNode) → slice_get nodes n ≡ Some node → IfSome node.parent (λ p. p < n)
    → names_down names nodes n ≡ names_to names nodes node.parent ++ 32 ∷ text_of names node.name
names_down-step names nodes n node at before =
    let within : n < length (parents_of nodes) = subst (λ l. n < l) (sym (length-parents_of nodes)) (slice_get_within nodes n node at) in
    let parent : get_or (parents_of nodes) n None ≡ node.parent = get_or_from_slice_get (parents_of nodes) n node.parent None (slice_get-map (λ x. x.parent) nodes n ∙ ap (option_map (λ x. x.parent)) at) in
    ap (names_along names nodes) (ancestors-step (parents_of nodes) n within (λ p is. subst (λ o. IfSome o (λ q. q < n)) (sym parent ∙ is) before))
    ∙ one_more names nodes n (path_up (parents_of nodes) (get_or (parents_of nodes) n None))
    ∙ ap (λ o. names_along names nodes (path_up (parents_of nodes) o) ++ name_in names nodes n) parent
    ∙ ap (λ front. front ++ name_in names nodes n) (above names nodes node.parent)
    ∙ ap (λ own. names_to names nodes node.parent ++ 32 ∷ own.name) (get_or_from_slice_get (map (own_of_flat names) nodes) n (own_of_flat names node) no_own (slice_get-map (own_of_flat names) nodes n ∙ ap (option_map (own_of_flat names)) at))

-- a space and a name behind the names above
pub name_pushed : (out middle spaced done bytes text to whole : List ℕ) → done ≡ spaced ++ bytes → spaced ≡ middle ++ 32 ∷ [] → middle ≡ out ++ to → bytes ≡ text → whole ≡ to ++ 32 ∷ text → done ≡ out ++ whole
name_pushed out middle spaced done bytes text to whole last space above name all =
    last
    ∙ ap (λ front. front ++ bytes) (space ∙ ap (λ front. front ++ 32 ∷ []) above)
    ∙ append_assoc (out ++ to) (32 ∷ []) bytes
    ∙ ap (λ end. (out ++ to) ++ 32 ∷ end) name
    ∙ append_assoc out to (32 ∷ text)
    ∙ ap (λ end. out ++ end) (sym all)
