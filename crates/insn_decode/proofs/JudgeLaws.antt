-- The leaves of a bucket that are found, one after another.
use Rattle.std.proofs.Common.{◌≡◌, ◌∙◌, sym, ap, subst, refl, ℕ, suc, ◌+◌, ◌<◌, List, [], ◌∷◌, ◌++◌, length, map, drop, get_or, All, Bool, false, true, arith, drop-cons, append_assoc}
use Rattle.std.proofs.lemmas.List.{get_or-map, length-map}
use Rattle.spec_bits.specs.Pattern.{pattern_holds}
use Rattle.spec_expressions.specs.Truth.{Truth, Yes, No, Open}
use Rattle.spec_expressions.specs.Scope.{Configuration}
use Rattle.spec_instructions.specs.Tree.{Own}
use Rattle.spec_instructions.specs.Paths.{path_items}
use Rattle.spec_instructions.specs.Fields.{merged}
use Rattle.spec_decode.specs.Verdict.{path_holds, conditions_from, by_items, verdict}
use Rattle.spec_decode.specs.Found.{Candidate, with_leaf}
use Rattle.spec_decode.specs.Bucket.{Encoding, found_among}
use Rattle.spec_decode.proofs.HoldLaws.{holds_of, joined-all}
use Rattle.insn_tree.specs.Trees.{TreeParts, path_at}
use Rattle.insn_decode.specs.declared.member.Member.{Member}
use Rattle.insn_decode.specs.Members.{encoding_of}
use Rattle.insn_decode.specs.Judged.{IsMemberOf}

-- a leaf's digits hold at the word exactly where all items on its path do
pub path_by_digits : (tree : TreeParts) (e : Encoding) (names : List (List ℕ)) (w : ℕ) (holds : Bool) → IsMemberOf tree e → pattern_holds e.digits w ≡ holds → path_holds (path_at names tree e.leaf) w ≡ holds
path_by_digits tree e names w holds is digits =
    let path : List Own = path_at names tree e.leaf in
    let all : holds_of (merged path) w ≡ path_holds path w = (joined-all w (path_items path) (is.within names)).holds in
    sym all ∙ ap (λ o. holds_of o w) (is.fixed names) ∙ digits

-- where they do not, it is excluded
pub excluded : (tree : TreeParts) (e : Encoding) (names : List (List ℕ)) (g : Configuration) (w : ℕ) → IsMemberOf tree e → pattern_holds e.digits w ≡ false → verdict (path_at names tree e.leaf) g w ≡ No
excluded tree e names g w is fails =
    ap (λ b. by_items b (conditions_from [] (path_at names tree e.leaf) g w)) (path_by_digits tree e names w false is fails)

-- where they do, its conditions decide
pub decided : (tree : TreeParts) (e : Encoding) (names : List (List ℕ)) (g : Configuration) (w : ℕ) (t : Truth) → IsMemberOf tree e → pattern_holds e.digits w ≡ true → t ≡ conditions_from [] (path_at names tree e.leaf) g w → t ≡ verdict (path_at names tree e.leaf) g w
decided tree e names g w t is holds h =
    h ∙ ap (λ b. by_items b (conditions_from [] (path_at names tree e.leaf) g w)) (sym (path_by_digits tree e names w true is holds))

with_append : (k : ℕ) (t : Truth) (rest : List Candidate) → with_leaf k t rest ≡ with_leaf k t [] ++ rest
with_append k Yes rest = refl
with_append k No rest = refl
with_append k Open rest = refl

-- one more leaf is looked at
pub looked_at : (paths : List (List Own)) (g : Configuration) (w : ℕ) (members : List Member) (i : ℕ) (d : Member) (before total : List Candidate) (leaf : ℕ) (t : Truth) → i < length members
    → before ++ found_among (map encoding_of (drop i members)) paths g w ≡ total → (encoding_of (get_or members i d)).leaf ≡ leaf → t ≡ verdict (get_or paths leaf []) g w
    → (before ++ with_leaf leaf t []) ++ found_among (map encoding_of (drop (i + 1) members)) paths g w ≡ total
looked_at paths g w members i d before total leaf t lt so number is =
    let rest : List Candidate = found_among (map encoding_of (drop (i + 1) members)) paths g w in
    let here : drop i members ≡ get_or members i d ∷ drop (i + 1) members = drop-cons members i d lt ∙ ap (λ (k : ℕ). get_or members i d ∷ drop k members) (let z : suc i ≡ i + 1 = omega arith in z) in
    append_assoc before (with_leaf leaf t []) rest
    ∙ ap (λ (l : List Candidate). before ++ l) (sym (with_append leaf t rest) ∙ ap (λ u. with_leaf leaf u rest) is ∙ ap (λ (k : ℕ). with_leaf k (verdict (get_or paths k []) g w) rest) (sym number))
    ∙ ap (λ (l : List Member). before ++ found_among (map encoding_of l) paths g w) (sym here)
    ∙ so

-- a member of a list of leaves is one of the tree's
pub member_got : (tree : TreeParts) (members : List Member) (i : ℕ) (d : Member) → All (IsMemberOf tree) (map encoding_of members) → i < length members → IsMemberOf tree (encoding_of (get_or members i d))
member_got tree members i d all lt =
    subst (IsMemberOf tree) (get_or-map encoding_of members i d (encoding_of d) lt) (all i (encoding_of d) (omega (arith, lt, length-map members encoding_of)))

pub member_at : (tree : TreeParts) (members : List Member) (i : ℕ) (m : Member) → All (IsMemberOf tree) (map encoding_of members) → i < length members → m ≡ get_or members i m → IsMemberOf tree (encoding_of m)
member_at tree members i m all lt at = subst (λ (x : Member). IsMemberOf tree (encoding_of x)) (sym at) (member_got tree members i m all lt)
