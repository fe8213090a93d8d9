-- Variables of a formula's parts stay within the numbers of literals.
use Rattle.std.proofs.Common.{◌≡◌, ℕ, ◌+◌, ◌<◌, ◌≤◌, ℤ, List, sym, ap, subst, arith}
use Rattle.spec_features.specs.Formula.{Connective, Formula, Joined, size}
use Rattle.spec_features.proofs.Encoding.{uses_wider, grows}
use Rattle.spec_features.proofs.Sizes.{last_few}
use Rattle.feat_model.specs.Encodes.{HasRoom, Encodes}

-- the right side, behind the left one; both as they are read back
pub right_room : (last now : ℕ) (whole : Formula) (c : Connective) (f g l r : Formula) (before clauses : List (List ℤ)) (literal : ℤ) → HasRoom last whole → whole ≡ Joined c f g
    → l ≡ f → r ≡ g → Encodes l last before literal now clauses → HasRoom now r
right_room last now whole c f g l r before clauses literal room is l_is r_is left =
    let P : Formula → Type 0 = λ f. HasRoom last f in
    let parts = subst P is room in
    let low : now ≤ last + size f = omega (arith, left.last_is, last_few last l, ap size l_is) in
    let Q : Formula → Type 0 = λ g. HasRoom now g in
    subst Q (sym r_is) (record {
      uses = uses_wider last now (omega (arith, left.last_is, grows last l)) g parts.uses.1;
      room = omega (arith, low, parts.room);
    })

-- and the variable behind both
pub whole_room : (last now next : ℕ) (whole : Formula) (c : Connective) (f g l r : Formula) (before clauses more : List (List ℤ)) (left_literal right_literal : ℤ) → HasRoom last whole → whole ≡ Joined c f g
    → l ≡ f → r ≡ g → Encodes l last before left_literal now clauses → Encodes r now clauses right_literal next more → next < 2147483647
whole_room last now next whole c f g l r before clauses more left_literal right_literal room is l_is r_is left right =
    let P : Formula → Type 0 = λ f. HasRoom last f in
    let parts = subst P is room in
    omega (arith, left.last_is, last_few last l, ap size l_is, right.last_is, last_few now r, ap size r_is, parts.room)
