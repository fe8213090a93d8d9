-- Worked values: places, and the first fault of small walks at the limits.
use Rattle.std.specs.Prelude.{◌≡◌, ℕ, List, [], ◌∷◌, ◌++◌, length, true, false, bytes_eq, Result, Ok, Err, codes, refl}
use Rattle.std.specs.Fmt.{digits}
use Rattle.std.specs.List.{list_any}
use Rattle.spec_walk.specs.Pointer.{under, element}
use Rattle.spec_walk.specs.Event.{ANode, ALeaf, AnAlias, AnExpression, Why, WrongShape, TooMany, Fault, Name, OneMore, Wrong}
use Rattle.spec_walk.specs.Limits.{Counts, from_held, judged}

-- ---- places

member_place : under (codes "/encodings") (codes "a/b") ≡ codes "/encodings/a~1b"
member_place = refl

tilde_place : under [] (codes "m~n~1") ≡ codes "/m~0n~01"
tilde_place = refl

empty_name_place : under [] [] ≡ codes "/"
empty_name_place = refl

element_place : element (codes "/values") 10 ≡ codes "/values/10"
unfolding digits
element_place = refl

-- ---- limits

abbrev at : List ℕ
at = codes "/a"

abbrev later : List ℕ
later = codes "/b"

abbrev fault : List ℕ → Why → Result Counts Fault
fault place why = Err (record { at = place; why = why })

-- these texts are held, and so many nodes, leaves and aliases were met
abbrev counts : List (List ℕ) → ℕ → ℕ → ℕ → Counts
counts held nodes leaves aliases = record { held = held; nodes = nodes; leaves = leaves; aliases = aliases; expressions = 0 }

-- and so many expressions alone
abbrev expressions : ℕ → Counts
expressions n = record (from_held []) { expressions = n }

no_event : judged [] (counts [] 1 2 3) ≡ Ok (counts [] 1 2 3)
no_event = refl

last_leaf : judged (OneMore ALeaf at ∷ []) (counts [] 0 65535 0) ≡ Ok (counts [] 0 65536 0)
last_leaf = refl

one_leaf_too_many : judged (OneMore ALeaf at ∷ []) (counts [] 0 65536 0) ≡ fault at TooMany
one_leaf_too_many = refl

last_alias : judged (OneMore AnAlias at ∷ []) (counts [] 0 65536 65535) ≡ Ok (counts [] 0 65536 65536)
last_alias = refl

one_alias_too_many : judged (OneMore AnAlias at ∷ []) (counts [] 0 0 65536) ≡ fault at TooMany
one_alias_too_many = refl

last_node : judged (OneMore ANode at ∷ []) (counts [] 1048575 0 0) ≡ Ok (counts [] 1048576 0 0)
last_node = refl

one_node_too_many : judged (OneMore ANode at ∷ []) (counts [] 1048576 0 0) ≡ fault at TooMany
one_node_too_many = refl

last_expression : judged (OneMore AnExpression at ∷ []) (expressions 4194303) ≡ Ok (expressions 4194304)
last_expression = refl

one_expression_too_many : judged (OneMore AnExpression at ∷ []) (expressions 4194304) ≡ fault at TooMany
one_expression_too_many = refl

-- each limit counts its own thing
expression_beside_nodes : judged (OneMore AnExpression at ∷ []) (counts [] 1048576 65536 65536) ≡ Ok (record (counts [] 1048576 65536 65536) { expressions = 1 })
expression_beside_nodes = refl

leaf_beside_aliases : judged (OneMore ALeaf at ∷ []) (counts [] 0 0 65536) ≡ Ok (counts [] 0 1 65536)
leaf_beside_aliases = refl

-- the second of two leaves passes the limit, and is the fault
second_leaf : judged (OneMore ALeaf at ∷ OneMore ALeaf later ∷ []) (counts [] 0 65535 0) ≡ fault later TooMany
second_leaf = refl

-- ---- names

held_text : judged (Name at (codes "x") ∷ []) (from_held (codes "w" ∷ codes "x" ∷ [])) ≡ Ok (from_held (codes "w" ∷ codes "x" ∷ []))
held_text = refl

new_text : judged (Name at (codes "y") ∷ []) (from_held (codes "w" ∷ codes "x" ∷ [])) ≡ Ok (from_held (codes "w" ∷ codes "x" ∷ codes "y" ∷ []))
new_text = refl

-- a text that was met takes no second number
same_text_again : judged (Name at (codes "y") ∷ Name later (codes "y") ∷ []) (from_held []) ≡ Ok (from_held (codes "y" ∷ []))
same_text_again = refl

-- where as many texts are held as may be, one more is too many, and one of them is not
one_name_too_many : (held : List (List ℕ)) (text : List ℕ) → length held ≡ 4194304 → list_any (λ h. bytes_eq h text) held ≡ false → judged (Name at text ∷ []) (from_held held) ≡ fault at TooMany
one_name_too_many held text full new = rw (new, full)

held_name_when_full : (held : List (List ℕ)) (text : List ℕ) → list_any (λ h. bytes_eq h text) held ≡ true → judged (Name at text ∷ []) (from_held held) ≡ Ok (from_held held)
held_name_when_full held text old = rw old

last_name : (held : List (List ℕ)) (text : List ℕ) → length held ≡ 4194303 → list_any (λ h. bytes_eq h text) held ≡ false → judged (Name at text ∷ []) (from_held held) ≡ Ok (from_held (held ++ text ∷ []))
last_name held text room new = rw (new, room)

-- ---- the first of two

fault_first : judged (Wrong (record { at = at; why = WrongShape }) ∷ OneMore ALeaf later ∷ []) (counts [] 0 65536 0) ≡ fault at WrongShape
fault_first = refl

limit_first : judged (OneMore ALeaf at ∷ Wrong (record { at = later; why = WrongShape }) ∷ []) (counts [] 0 65536 0) ≡ fault at TooMany
limit_first = refl

-- a leaf is a node too, and the limit on nodes comes first
node_before_leaf : judged (OneMore ANode at ∷ OneMore ALeaf later ∷ []) (counts [] 1048576 65536 0) ≡ fault at TooMany
node_before_leaf = refl

-- a fault after what has room
fault_last : judged (Name at (codes "x") ∷ OneMore ANode at ∷ Wrong (record { at = later; why = WrongShape }) ∷ []) (from_held []) ≡ fault later WrongShape
fault_last = refl
