-- The bits that parts give, gathered one part after the other.
use Rattle.std.proofs.Common.{◌≡◌, ◌∙◌, sym, ap, refl, subst, ℕ, ◌+◌, ◌<◌, Bool, true, false, ◌||◌, ◌==◌, cond, List, ◌∷◌, map, length, drop, get_or, drop-cons, add-one, Some, None}
use Rattle.std.specs.List.{position_from}
use Rattle.spec_encoding.specs.Parts.{Part, gives, some_gives, is_too_wide}
use Rattle.spec_encoding.specs.Named.{FieldOf, field_for, part_from, parts}
use Rattle.word_layout.specs.Masks.{has_bit, IsMask}
use Rattle.insn_encode.specs.Views.{pair_of}
use Rattle.mrs_names.specs.declared.name_id.NameId.{NameId}

-- the bits that a mask has so far and those that the parts that are left give are those that all parts give
abbrev pub IsGathered : ℕ → ℕ → List Part → List Part → Type 0
IsGathered b m left all = (i : ℕ) → i < 32 → (has_bit m i || some_gives left i b) ≡ some_gives all i b

or_group : (x y z : Bool) → ((x || y) || z) ≡ (x || (y || z))
or_group true y z = refl
or_group false y z = refl

pub gathered-step : (b m m' : ℕ) (p : Part) (left all : List Part) → IsMask m' (λ i. has_bit m i || gives i b p) → IsGathered b m (p ∷ left) all → IsGathered b m' left all
gathered-step b m m' p left all is so_far i below =
    ap (λ x. x || some_gives left i b) (is i below) ∙ or_group (has_bit m i) (gives i b p) (some_gives left i b) ∙ so_far i below

position-rest : (k : ℕ) (p : Part) (left : List Part) → position_from is_too_wide k (p ∷ left) ≡ None → position_from is_too_wide (k + 1) left ≡ None
position-rest k p left h = go (is_too_wide p) refl h
  where
    go : (b : Bool) → is_too_wide p ≡ b → cond b (Some k) (position_from is_too_wide (k + 1) left) ≡ None → position_from is_too_wide (k + 1) left ≡ None
    go true e h = absurd (cc)
    go false e h = h

module _ (shown : List (FieldOf ℕ)) (pairs : List (NameId × ℕ)) (k : ℕ) (below : k < length pairs) (d : NameId × ℕ) where
  abbrev left_from : ℕ → List Part
  left_from n = parts (λ a b. a == b) shown (map pair_of (drop n pairs))

  abbrev here : Part
  here = part_from (λ a b. a == b) (field_for (λ a b. a == b) shown (get_or pairs k d).0.0) (get_or pairs k d).1

  next : left_from k ≡ here ∷ left_from (k + 1)
  next = ap (λ ps. parts (λ a b. a == b) shown (map pair_of ps)) (drop-cons pairs k d below) ∙ ap (λ n. here ∷ left_from n) (sym (add-one k))

  pub fits-next : position_from is_too_wide k (left_from k) ≡ None → position_from is_too_wide (k + 1) (left_from (k + 1)) ≡ None
  fits-next h = position-rest k here (left_from (k + 1)) (ap (position_from is_too_wide k) (sym next) ∙ h)

  pub gathered-next : (b m m' : ℕ) (all : List Part) → IsMask m' (λ i. has_bit m i || gives i b here) → IsGathered b m (left_from k) all → IsGathered b m' (left_from (k + 1)) all
  gathered-next b m m' all is so_far = gathered-step b m m' here (left_from (k + 1)) all is (subst (λ ps. IsGathered b m ps all) next so_far)
