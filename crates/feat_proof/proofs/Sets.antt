-- Lists of literals with the same members lead to the same answers.
use Rattle.std.proofs.Common.{◌≡◌, ℕ, ℤ, neg_ℤ, Bool, true, false, cond, not, ◌||◌, ◌&&◌, List, [], ◌∷◌, Option, Some, None, refl, sym, ap, ◌∙◌}
use Rattle.std.specs.Option.{option_map_or, option_and_then}
use Rattle.std.specs.Ordering.{int_eq}
use Rattle.std.proofs.lemmas.Bool.Decides.{same_from_decides, Decides-int_eq}
use Rattle.spec_refutation.specs.Derivation.{has, open_literals, falsified, the_only, clause_numbered, leads}
use Rattle.feat_proof.specs.Members.{SameMembers}

pub int_eq_comm : (x y : ℤ) → int_eq x y ≡ int_eq y x
int_eq_comm x y = same_from_decides (int_eq x y) (int_eq y x) (Decides-int_eq x y)
    ((λ e. sym ((Decides-int_eq y x).0 e)), (λ e. (Decides-int_eq y x).1 (sym e)))

pub open_literals-same : (xs ys : List ℤ) → SameMembers xs ys → (c : List ℤ)
    → open_literals xs c ≡ open_literals ys c
open_literals-same xs ys h [] = refl
open_literals-same xs ys h (l ∷ c) =
    ap (λ b. cond (not b) (l ∷ open_literals xs c) (open_literals xs c)) (h (neg_ℤ l)) ∙ ap (λ t. cond (not (has ys (neg_ℤ l))) (l ∷ t) t) (open_literals-same xs ys h c)

pub falsified-same : (xs ys : List ℤ) → SameMembers xs ys → (c : List ℤ) → falsified xs c ≡ falsified ys c
falsified-same xs ys h [] = refl
falsified-same xs ys h (l ∷ c) = ap (λ b. b && falsified xs c) (h (neg_ℤ l)) ∙ ap (λ b. has ys (neg_ℤ l) && b) (falsified-same xs ys h c)

pub SameMembers-cons : (xs ys : List ℤ) (l : ℤ) → SameMembers xs ys → SameMembers (l ∷ xs) (l ∷ ys)
SameMembers-cons xs ys l h m = ap (λ b. int_eq m l || b) (h m)

-- the answer at one clause, and at what it adds
falsified_at-same : (xs ys : List ℤ) → SameMembers xs ys → (o : Option (List ℤ))
    → option_map_or (falsified xs) o false ≡ option_map_or (falsified ys) o false
falsified_at-same xs ys h None = refl
falsified_at-same xs ys h (Some c) = falsified-same xs ys h c

only_at-same : (xs ys : List ℤ) → SameMembers xs ys → (o : Option (List ℤ))
    → option_and_then (λ c. the_only (open_literals xs c)) o ≡ option_and_then (λ c. the_only (open_literals ys c)) o
only_at-same xs ys h None = refl
only_at-same xs ys h (Some c) = ap the_only (open_literals-same xs ys h c)

rest_at-same : (f g : ℤ → Bool) → ((l : ℤ) → f l ≡ g l) → (o : Option ℤ)
    → option_map_or f o false ≡ option_map_or g o false
rest_at-same f g h None = refl
rest_at-same f g h (Some l) = h l

pub leads-same : (known : List (List ℤ)) (hs : List ℕ) (xs ys : List ℤ) → SameMembers xs ys
    → leads known xs hs ≡ leads known ys hs
leads-same known [] xs ys h = refl
leads-same known (k ∷ []) xs ys h = falsified_at-same xs ys h (clause_numbered known k)
leads-same known (k ∷ g ∷ hs) xs ys h =
    rest_at-same (λ l. leads known (l ∷ xs) (g ∷ hs)) (λ l. leads known (l ∷ ys) (g ∷ hs)) (λ l. leads-same known (g ∷ hs) (l ∷ xs) (l ∷ ys) (SameMembers-cons xs ys l h)) (option_and_then (λ c. the_only (open_literals xs c)) (clause_numbered known k))
    ∙ ap (λ o. option_map_or (λ l. leads known (l ∷ ys) (g ∷ hs)) o false) (only_at-same xs ys h (clause_numbered known k))

-- a literal that an insertion adds
pub inserted : (old new : List ℤ) (l : ℤ) → ((m : ℤ) → has new m ≡ cond (int_eq l m) true (has old m))
    → SameMembers new (l ∷ old)
inserted old new l h m = h m ∙ ap (λ b. cond b true (has old m)) (int_eq_comm l m) ∙ or_is (int_eq m l) (has old m)
  where
    or_is : (a b : Bool) → cond a true b ≡ (a || b)
    or_is true b = refl
    or_is false b = refl
