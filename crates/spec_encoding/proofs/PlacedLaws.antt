-- A word is made exactly where there is one with the values and the rest, and then it is that one.
use Rattle.std.specs.Prelude.{Result}
use Rattle.std.proofs.Common.{◌≡◌, ◌≢◌, ◌∙◌, sym, ap, refl, subst, ℕ, zero, suc, ◌+◌, ◌-◌, ◌%◌, ◌^◌, ◌<◌, Bool, true, false, not, ◌==◌, cond, List, [], ◌∷◌, Option, Some, None, Ok, arith, ◌⊎◌, inl, inr}
use Rattle.std.specs.List.{position_from}
use Rattle.std.proofs.lemmas.Bool.{and_parts, and_from, and_left, and_right, cases_Bool, cond-true, cond-false, cond_both, false_from_ne_true, false≢true, not_from_true, not_from_false, eq-eqb, ne_eqb, leb-false, lt-leb}
use Rattle.std.proofs.lemmas.Nat.{mod_below}
use Rattle.std.proofs.lemmas.Nat.Bits.{bit_at-lt}
use Rattle.std.proofs.lemmas.List.Elements.{All-nil, All-cons, All-head, All-tail}
use Rattle.spec_bits.specs.Bits.{bit_of, slice}
use Rattle.spec_bits.proofs.BitLaws.{slice-lt}
use Rattle.spec_encoding.specs.Parts.{Part, some_gives, is_too_wide, is_clash, highest}
use Rattle.spec_encoding.specs.Layout.{Layout, flipped, rest_in, is_against, is_misfixed, is_stray}
use Rattle.spec_encoding.specs.Refusal.{Refusal, TooWide, Clash, FixedBit, RestBit, Excluded, unless}
use Rattle.spec_encoding.specs.Placed.{not_given, made_bit, made, placed}
use Rattle.spec_encoding.proofs.BitLaws.{highest-none, none-highest, number_of_bits-lt, bit_of-number, number-is}
use Rattle.spec_encoding.proofs.PartLaws.{HasSlices, AreWithin, AllFit, HasGiven, slices-give, slices-from, some_cover, uncovered, covered, given-lt}

-- a word has the values of parts and the rest, and nothing excludes it
pub record HasParts (l : Layout) (excluded : ℕ → Option ℕ) (ps : List Part) (rest w : ℕ) : Type 0 where
  pub is_word : w < 2 ^ 32
  pub slices : HasSlices w ps
  pub is_rest : rest_in l w ≡ rest
  pub holds : excluded w ≡ None

-- what is known of a path's bits and of the parts for its shown fields: each bit is fixed, or free, or covered by a part
pub record IsLayout (l : Layout) (excluded : ℕ → Option ℕ) (ps : List Part) : Type 0 where
  pub within : AreWithin ps
  pub binary : (i b : ℕ) → l.fixed i ≡ Some b → b < 2
  pub unfixed_free : (i : ℕ) → l.free i ≡ true → l.fixed i ≡ None
  pub bare_free : (i : ℕ) → l.free i ≡ true → some_cover ps i ≡ false
  pub whole : (i : ℕ) → i < 32 → l.fixed i ≡ None → l.free i ≡ false → some_cover ps i ≡ true
  pub kept : (w : ℕ) → excluded w ≡ None → (i b : ℕ) → l.fixed i ≡ Some b → bit_of w i ≡ b

-- ---- bits

twice : (b d : ℕ) → b < 2 → ((b + d) % 2 + d) % 2 ≡ b
twice b d small = omega arith

pub flipped-lt : (l : Layout) (w i : ℕ) → flipped l w i < 2
flipped-lt l w i = cond_both (l.free i) ((bit_of w i + l.default i) % 2) 0 (λ x. x < 2) (λ _. mod_below (bit_of w i + l.default i) 2 (omega arith)) (λ _. omega arith)

module _ (l : Layout) (excluded : ℕ → Option ℕ) (ps : List Part) (known : IsLayout l excluded ps) (rest : ℕ) where
  made_bit-lt : (i : ℕ) → made_bit l ps rest i < 2
  made_bit-lt i = go (some_gives ps i 1) (some_gives ps i 0) (l.fixed i) refl
    where
      go : (x y : Bool) (o : Option ℕ) → l.fixed i ≡ o → cond x 1 (cond y 0 (not_given l rest i o)) < 2
      go true y o e = omega arith
      go false true o e = omega arith
      go false false None e = flipped-lt l rest i
      go false false (Some b) e = known.binary i b e

  -- a bit of the word that is made
  bit_of-made : (i : ℕ) → i < 32 → bit_of (made l ps rest) i ≡ made_bit l ps rest i
  bit_of-made i below = bit_of-number (made_bit l ps rest) 32 (λ k _. made_bit-lt k) i below

  made_bit-one : (i : ℕ) → some_gives ps i 1 ≡ true → made_bit l ps rest i ≡ 1
  made_bit-one i e = cond-true (some_gives ps i 1) _ _ e

  made_bit-zero : (i : ℕ) → some_gives ps i 1 ≡ false → some_gives ps i 0 ≡ true → made_bit l ps rest i ≡ 0
  made_bit-zero i e f = cond-false (some_gives ps i 1) _ _ e ∙ cond-true (some_gives ps i 0) _ _ f

  made_bit-else : (i : ℕ) → some_gives ps i 1 ≡ false → some_gives ps i 0 ≡ false → made_bit l ps rest i ≡ not_given l rest i (l.fixed i)
  made_bit-else i e f = cond-false (some_gives ps i 1) _ _ e ∙ cond-false (some_gives ps i 0) _ _ f

  -- ---- from a word with the values to the word that is made

  module _ (w : ℕ) (has : HasParts l excluded ps rest w) where
    rest_bit : (i : ℕ) → i < 32 → bit_of rest i ≡ flipped l w i
    rest_bit i below = ap (λ r. bit_of r i) (sym has.is_rest) ∙ bit_of-number (flipped l w) 32 (λ k _. flipped-lt l w k) i below

    free_bit : (i : ℕ) → i < 32 → l.free i ≡ true → flipped l rest i ≡ bit_of w i
    free_bit i below free =
        cond-true (l.free i) _ _ free
        ∙ ap (λ b. (b + l.default i) % 2) (rest_bit i below ∙ cond-true (l.free i) _ _ free)
        ∙ twice (bit_of w i) (l.default i) (bit_at-lt w i)

    unfixed_bit : (i : ℕ) → i < 32 → some_gives ps i 1 ≡ false → some_gives ps i 0 ≡ false → (o : Option ℕ) → l.fixed i ≡ o → not_given l rest i o ≡ bit_of w i
    unfixed_bit i below one zero' (Some b) e = sym (known.kept w has.holds i b e)
    unfixed_bit i below one zero' None e = go (cases_Bool (l.free i))
      where
        missed : (some_gives ps i 0 ≡ true) ⊎ (some_gives ps i 1 ≡ true) → flipped l rest i ≡ bit_of w i
        missed (inl h) = absurd (false≢true (sym zero' ∙ h))
        missed (inr h) = absurd (false≢true (sym one ∙ h))

        go : (l.free i ≡ true) ⊎ (l.free i ≡ false) → flipped l rest i ≡ bit_of w i
        go (inl free) = free_bit i below free
        go (inr bound) = missed (covered ps i (known.whole i below e bound))

    made_bit-is : (i : ℕ) → i < 32 → made_bit l ps rest i ≡ bit_of w i
    made_bit-is i below = go (cases_Bool (some_gives ps i 1)) (cases_Bool (some_gives ps i 0))
      where
        go : (some_gives ps i 1 ≡ true) ⊎ (some_gives ps i 1 ≡ false) → (some_gives ps i 0 ≡ true) ⊎ (some_gives ps i 0 ≡ false) → made_bit l ps rest i ≡ bit_of w i
        go (inl e) f = made_bit-one i e ∙ sym (slices-give w ps has.slices i 1 e)
        go (inr e) (inl f) = made_bit-zero i e f ∙ sym (slices-give w ps has.slices i 0 f)
        go (inr e) (inr f) = made_bit-else i e f ∙ unfixed_bit i below e f (l.fixed i) refl

    pub made-is : made l ps rest ≡ w
    made-is = number-is (made_bit l ps rest) 32 w (λ k _. made_bit-lt k) has.is_word made_bit-is

    no_clash : (i : ℕ) → i < 32 → is_clash ps i ≡ false
    no_clash i below = false_from_ne_true (is_clash ps i) (λ h.
        let both = and_parts (some_gives ps i 0) (some_gives ps i 1) h in
        let low = slices-give w ps has.slices i 0 both.0 in
        let high = slices-give w ps has.slices i 1 both.1 in
        omega arith)

    no_misfit : (i : ℕ) → (o : Option ℕ) → l.fixed i ≡ o → is_against ps i o ≡ false
    no_misfit i None e = refl
    no_misfit i (Some b) e = false_from_ne_true (some_gives ps i (1 - b)) (λ h.
        let other = slices-give w ps has.slices i (1 - b) h in
        let kept = known.kept w has.holds i b e in
        let small = known.binary i b e in
        omega arith)

    no_stray : (i : ℕ) → i < 32 → is_stray l rest i ≡ false
    no_stray i below = go (cases_Bool (l.free i))
      where
        go : (l.free i ≡ true) ⊎ (l.free i ≡ false) → is_stray l rest i ≡ false
        go (inl free) = and_right (bit_of rest i == 1) (not (l.free i)) (not_from_true (l.free i) free)
        go (inr bound) = and_left (bit_of rest i == 1) (not (l.free i)) (ne_eqb (bit_of rest i) 1 (λ one. let z = rest_bit i below ∙ cond-false (l.free i) _ _ bound in omega arith))

  -- ---- from the word that is made to the values

  module _ (fits : AllFit ps) (calm : (i : ℕ) → i < 32 → is_clash ps i ≡ false) (tame : (i : ℕ) → i < 32 → is_stray l rest i ≡ false) (small : rest < 2 ^ 32) where
    made-given : HasGiven (made l ps rest) ps
    made-given i b below h = go b (given-lt ps i b h) h
      where
        go : (b : ℕ) → b < 2 → some_gives ps i b ≡ true → bit_of (made l ps rest) i ≡ b
        go zero s e =
            let quiet = false_from_ne_true (some_gives ps i 1) (λ one. false≢true (sym (calm i below) ∙ and_from (some_gives ps i 0) (some_gives ps i 1) e one)) in
            bit_of-made i below ∙ made_bit-zero i quiet e
        go (suc zero) s e = bit_of-made i below ∙ made_bit-one i e
        go (suc (suc b)) s e = absurd (omega arith)

    flipped-made : (i : ℕ) → i < 32 → flipped l (made l ps rest) i ≡ bit_of rest i
    flipped-made i below = go (cases_Bool (l.free i))
      where
        stray : not (l.free i) ≡ true → bit_of rest i ≡ 0
        stray bound =
            let apart : bit_of rest i ≢ 1 = λ one. false≢true (sym (tame i below) ∙ and_from (bit_of rest i == 1) (not (l.free i)) (eq-eqb (bit_of rest i) 1 one) bound) in
            omega (arith, bit_at-lt rest i, apart)

        go : (l.free i ≡ true) ⊎ (l.free i ≡ false) → flipped l (made l ps rest) i ≡ bit_of rest i
        go (inl free) =
            let bare = known.bare_free i free in
            let bit = bit_of-made i below ∙ made_bit-else i (uncovered ps i 1 bare) (uncovered ps i 0 bare) ∙ ap (not_given l rest i) (known.unfixed_free i free) ∙ cond-true (l.free i) _ _ free in
            cond-true (l.free i) _ _ free ∙ ap (λ b. (b + l.default i) % 2) bit ∙ twice (bit_of rest i) (l.default i) (bit_at-lt rest i)
        go (inr bound) = cond-false (l.free i) _ _ bound ∙ sym (stray (not_from_false (l.free i) bound))

    pub made-has : excluded (made l ps rest) ≡ None → HasParts l excluded ps rest (made l ps rest)
    made-has holds = record {
      is_word = number_of_bits-lt (made_bit l ps rest) 32 (λ k _. made_bit-lt k);
      slices = slices-from (made l ps rest) ps fits known.within made-given;
      is_rest = number-is (flipped l (made l ps rest)) 32 rest (λ k _. flipped-lt l (made l ps rest) k) small flipped-made;
      holds = holds;
    }

-- ---- widths

fits-from : (k : ℕ) (ps : List Part) → position_from is_too_wide k ps ≡ None → AllFit ps
fits-from k [] h = All-nil (λ p. p.value < 2 ^ p.width)
fits-from k (p ∷ ps) h = go (is_too_wide p) refl h (fits-from (k + 1) ps)
  where
    go : (b : Bool) → is_too_wide p ≡ b → cond b (Some k) (position_from is_too_wide (k + 1) ps) ≡ None → (position_from is_too_wide (k + 1) ps ≡ None → AllFit ps) → AllFit (p ∷ ps)
    go true e none further = absurd (cc)
    go false e none further = All-cons (λ p. p.value < 2 ^ p.width) p ps (leb-false (2 ^ p.width) p.value e) (further none)

fits-to : (k : ℕ) (ps : List Part) (w : ℕ) → HasSlices w ps → position_from is_too_wide k ps ≡ None
fits-to k [] w all = refl
fits-to k (p ∷ ps) w all =
    let same = All-head (λ p. slice w p.start p.width ≡ p.value) p ps all in
    let below : p.value < 2 ^ p.width = omega (arith, same, slice-lt w p.start p.width) in
    ap (λ b. cond b (Some k) (position_from is_too_wide (k + 1) ps)) (lt-leb (2 ^ p.width) p.value below) ∙ fits-to (k + 1) ps w (All-tail (λ p. slice w p.start p.width ≡ p.value) p ps all)

-- ---- refusals

pub unless-Ok : {N X : Type 0} (o : Option X) (why : X → Refusal N) (next : Result ℕ (Refusal N)) (w : ℕ) → unless o why next ≡ Ok w → (o ≡ None) × (next ≡ Ok w)
unless-Ok None why next w h = (refl, h)
unless-Ok (Some i) why next w h = absurd (cc)

pub unless-None : {N X : Type 0} (o : Option X) (why : X → Refusal N) (next : Result ℕ (Refusal N)) → o ≡ None → unless o why next ≡ next
unless-None o why next e = ap (λ x. unless x why next) e

abbrev Word : Type 0 → Type 0
Word N = Result ℕ (Refusal N)

same_word : {N : Type 0} (a b : ℕ) (r : Word N) → r ≡ Ok a → r ≡ Ok b → a ≡ b
same_word a b r h k = cc

pub placed-from : {N : Type 0} (l : Layout) (excluded : ℕ → Option ℕ) (ps : List Part) (rest w : ℕ) → IsLayout l excluded ps → HasParts l excluded ps rest w → placed {N = N} l excluded ps rest ≡ Ok w
placed-from {N} l excluded ps rest w known has =
    let is = made-is l excluded ps known rest w has in
    unless-None _ TooWide _ (fits-to 0 ps w has.slices)
    ∙ unless-None _ Clash _ (highest-none (is_clash ps) 32 (no_clash l excluded ps known rest w has))
    ∙ unless-None _ FixedBit _ (highest-none (is_misfixed l ps) 32 (λ i _. no_misfit l excluded ps known rest w has i (l.fixed i) refl))
    ∙ unless-None _ RestBit _ (highest-none (is_stray l rest) 32 (no_stray l excluded ps known rest w has))
    ∙ unless-None _ Excluded _ (ap excluded is ∙ has.holds)
    ∙ ap Ok is

pub placed-to : {N : Type 0} (l : Layout) (excluded : ℕ → Option ℕ) (ps : List Part) (rest w : ℕ) → IsLayout l excluded ps → rest < 2 ^ 32 → placed {N = N} l excluded ps rest ≡ Ok w → HasParts l excluded ps rest w
placed-to {N} l excluded ps rest w known small h =
    let wide = unless-Ok (position_from is_too_wide 0 ps) TooWide _ w h in
    let clash = unless-Ok (highest (is_clash ps) 32) Clash _ w wide.1 in
    let misfit = unless-Ok (highest (is_misfixed l ps) 32) FixedBit _ w clash.1 in
    let stray = unless-Ok (highest (is_stray l rest) 32) RestBit _ w misfit.1 in
    let kept = unless-Ok (excluded (made l ps rest)) Excluded _ w stray.1 in
    let has = made-has l excluded ps known rest (fits-from 0 ps wide.0) (none-highest (is_clash ps) 32 clash.0) (none-highest (is_stray l rest) 32 stray.0) small kept.0 in
    subst (λ v. HasParts l excluded ps rest v) (same_word {N = N} (made l ps rest) w (Ok (made l ps rest)) refl kept.1) has

-- at most one word has the values and the rest
pub one_word : (l : Layout) (excluded : ℕ → Option ℕ) (ps : List Part) (rest w u : ℕ) → IsLayout l excluded ps → HasParts l excluded ps rest w → HasParts l excluded ps rest u → w ≡ u
one_word l excluded ps rest w u known left right = sym (made-is l excluded ps known rest w left) ∙ made-is l excluded ps known rest u right
