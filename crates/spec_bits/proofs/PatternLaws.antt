-- Laws of patterns: what holding and joining say of each bit.
use Rattle.std.proofs.Common.{◌≡◌, ◌≢◌, ◌∙◌, sym, ap, refl, ℕ, suc, ◌%◌, ◌^◌, ◌<◌, ◌≤◌, Bool, true, false, ◌&&◌, ◌==◌, cond, List, [], ◌∷◌, length, Option, Some, None, option_map, option_and_then, arith, ◌⊎◌, inl, inr}
use Rattle.std.specs.Bool.{Decides}
use Rattle.std.specs.Option.{option_or}
use Rattle.std.proofs.lemmas.Bool.{eq-eqb, ne_eqb, cases_eq, cases_lt}
use Rattle.std.proofs.lemmas.Bool.Decides.{Decides-eqb, Decides-and, Decides-like}
use Rattle.spec_bits.specs.Bits.{bit_of}
use Rattle.spec_bits.specs.Pattern.{Digit, Zero, One, Either, digit_holds, pattern_holds, digit_for, digit_value, value_at, joined_digit, joined}
use Rattle.spec_bits.proofs.BitLaws.{bit_of-mod}

-- ---- the value of a bit

-- the first digit's value is that of the highest bit
pub value_at-here : (d : Digit) (ds : List Digit) (i : ℕ) → i ≡ length ds → value_at (d ∷ ds) i ≡ digit_value d
value_at-here d ds i e = ap (λ b. option_and_then digit_value (cond b (Some d) (digit_for ds i))) (eq-eqb i (length ds) e)

-- and the other bits have the values of the other digits
pub value_at-there : (d : Digit) (ds : List Digit) (i : ℕ) → i ≢ length ds → value_at (d ∷ ds) i ≡ value_at ds i
value_at-there d ds i apart = ap (λ b. option_and_then digit_value (cond b (Some d) (digit_for ds i))) (ne_eqb i (length ds) apart)

-- no bit from the width on has a value
pub value_at-above : (ds : List Digit) (i : ℕ) → length ds ≤ i → value_at ds i ≡ None
value_at-above [] i above = refl
value_at-above (d ∷ ds) i above =
    let apart : i ≢ length ds = λ e. omega arith in
    let higher : length ds ≤ i = omega arith in
    value_at-there d ds i apart ∙ value_at-above ds i higher

pub value_at-lt : (ds : List Digit) (i v : ℕ) → value_at ds i ≡ Some v → i < length ds
value_at-lt ds i v s = go (cases_lt i (length ds))
  where
    go : (i < length ds) ⊎ (length ds ≤ i) → i < length ds
    go (inl below) = below
    go (inr above) = absurd (let none = value_at-above ds i above in cc)

-- ---- when a pattern holds

-- a pattern reads no bits but those that it has digits for
pub pattern_holds-same_bits : (ds : List Digit) (w u : ℕ) → ((i : ℕ) → i < length ds → bit_of w i ≡ bit_of u i) → pattern_holds ds w ≡ pattern_holds ds u
pattern_holds-same_bits [] w u same = refl
pattern_holds-same_bits (d ∷ ds) w u same =
    let first : bit_of w (length ds) ≡ bit_of u (length ds) = same (length ds) (omega arith) in
    let rest = pattern_holds-same_bits ds w u (λ i h. same i (omega (arith, h))) in
    ap (λ b. digit_holds d b && pattern_holds ds w) first ∙ ap (λ r. digit_holds d (bit_of u (length ds)) && r) rest

pub pattern_holds-mod : (ds : List Digit) (w n : ℕ) → length ds ≤ n → pattern_holds ds (w % 2 ^ n) ≡ pattern_holds ds w
pattern_holds-mod ds w n fits = pattern_holds-same_bits ds (w % 2 ^ n) w (λ i h. bit_of-mod w n i (omega (arith, h)))

-- a digit holds of a bit exactly where the bit has the value to which the digit fixes it
digit_holds-each : (d : Digit) (b : ℕ) → Decides (digit_holds d b) ((v : ℕ) → digit_value d ≡ Some v → b ≡ v)
digit_holds-each Zero b = Decides-like (b == 0) (λ e v s. cc) (λ all. all 0 refl) (Decides-eqb b 0)
digit_holds-each One b = Decides-like (b == 1) (λ e v s. cc) (λ all. all 1 refl) (Decides-eqb b 1)
digit_holds-each Either b = (λ _ v s. absurd (cc), λ _. refl)

-- each bit that the pattern fixes has that value
abbrev pub HasFixedBits : List Digit → ℕ → Type 0
HasFixedBits ds w = (i v : ℕ) → value_at ds i ≡ Some v → bit_of w i ≡ v

-- the first digit's bit, and the bits of the others
FixedBits-cons : (d : Digit) (ds : List Digit) (w : ℕ) → ((v : ℕ) → digit_value d ≡ Some v → bit_of w (length ds) ≡ v) → HasFixedBits ds w → HasFixedBits (d ∷ ds) w
FixedBits-cons d ds w first rest i v s = go (cases_eq i (length ds))
  where
    go : (i ≡ length ds) ⊎ (i ≢ length ds) → bit_of w i ≡ v
    go (inl e) = ap (λ k. bit_of w k) e ∙ first v (sym (value_at-here d ds i e) ∙ s)
    go (inr apart) = rest i v (sym (value_at-there d ds i apart) ∙ s)

FixedBits-rest : (d : Digit) (ds : List Digit) (w : ℕ) → HasFixedBits (d ∷ ds) w → HasFixedBits ds w
FixedBits-rest d ds w all i v s = go (cases_eq i (length ds))
  where
    go : (i ≡ length ds) ⊎ (i ≢ length ds) → bit_of w i ≡ v
    go (inl e) = absurd (let below = value_at-lt ds i v s in omega arith)
    go (inr apart) = all i v (value_at-there d ds i apart ∙ s)

-- a pattern holds of a number exactly where each bit that it fixes has that value
pub pattern_holds-each : (ds : List Digit) (w : ℕ) → Decides (pattern_holds ds w) (HasFixedBits ds w)
pattern_holds-each [] w = (λ _ i v s. absurd (cc), λ _. refl)
pattern_holds-each (d ∷ ds) w =
    Decides-like (pattern_holds (d ∷ ds) w)
    (λ h. FixedBits-cons d ds w h.0 h.1)
    (λ all. (λ v s. all (length ds) v (value_at-here d ds (length ds) refl ∙ s), FixedBits-rest d ds w all))
    (Decides-and (digit_holds d (bit_of w (length ds))) (pattern_holds ds w) (digit_holds-each d (bit_of w (length ds))) (pattern_holds-each ds w))

-- ---- two patterns joined

same_digit : (j k : Digit) → Some k ≡ Some j → j ≡ k
same_digit j k h = cc

and_self : (x : Bool) → x ≡ (x && x)
and_self true = refl
and_self false = refl

and_true : (x : Bool) → x ≡ (x && true)
and_true true = refl
and_true false = refl

and_swap : (x y z u : Bool) → ((x && y) && (z && u)) ≡ ((x && z) && (y && u))
and_swap false y z u = refl
and_swap true false false u = refl
and_swap true false true u = refl
and_swap true true z u = refl

-- a joined digit is fixed where either is, and holds where both do
digit_value-joined : (d e j : Digit) → joined_digit d e ≡ Some j → digit_value j ≡ option_or (digit_value d) (digit_value e)
digit_value-joined Either e j h = ap digit_value (same_digit j e h)
digit_value-joined Zero Zero j h = ap digit_value (same_digit j Zero h)
digit_value-joined Zero One j h = absurd (cc)
digit_value-joined Zero Either j h = ap digit_value (same_digit j Zero h)
digit_value-joined One Zero j h = absurd (cc)
digit_value-joined One One j h = ap digit_value (same_digit j One h)
digit_value-joined One Either j h = ap digit_value (same_digit j One h)

digit_holds-joined : (d e j : Digit) (b : ℕ) → joined_digit d e ≡ Some j → digit_holds j b ≡ (digit_holds d b && digit_holds e b)
digit_holds-joined Either e j b h = ap (λ k. digit_holds k b) (same_digit j e h)
digit_holds-joined Zero Zero j b h = ap (λ k. digit_holds k b) (same_digit j Zero h) ∙ and_self (b == 0)
digit_holds-joined Zero One j b h = absurd (cc)
digit_holds-joined Zero Either j b h = ap (λ k. digit_holds k b) (same_digit j Zero h) ∙ and_true (b == 0)
digit_holds-joined One Zero j b h = absurd (cc)
digit_holds-joined One One j b h = ap (λ k. digit_holds k b) (same_digit j One h) ∙ and_self (b == 1)
digit_holds-joined One Either j b h = ap (λ k. digit_holds k b) (same_digit j One h) ∙ and_true (b == 1)

-- the first digit of a join and the others
pub record JoinedCons (d e : Digit) (ds es js : List Digit) : Type 0 where
  pub first : Digit
  pub others : List Digit
  pub is_first : joined_digit d e ≡ Some first
  pub is_others : joined ds es ≡ Some others
  pub whole : js ≡ first ∷ others

pub joined-cons : (d e : Digit) (ds es js : List Digit) → joined (d ∷ ds) (e ∷ es) ≡ Some js → JoinedCons d e ds es js
joined-cons d e ds es js h = go (joined_digit d e) refl (joined ds es) refl h
  where
    go : (o : Option Digit) → joined_digit d e ≡ o → (r : Option (List Digit)) → joined ds es ≡ r → option_and_then (λ j. option_map (λ ks. j ∷ ks) r) o ≡ Some js → JoinedCons d e ds es js
    go None p r q k = absurd (cc)
    go (Some j) p None q k = absurd (cc)
    go (Some j) p (Some ks) q k = record { first = j; others = ks; is_first = p; is_others = q; whole = cc }

-- patterns that are joined have one width, and so has their join
pub length-joined : (ds es js : List Digit) → joined ds es ≡ Some js → (length js ≡ length ds) × (length es ≡ length ds)
length-joined [] [] js h = let e : js ≡ [] = cc in (ap length e, refl)
length-joined [] (e ∷ es) js h = absurd (cc)
length-joined (d ∷ ds) [] js h = absurd (cc)
length-joined (d ∷ ds) (e ∷ es) js h =
    let p = joined-cons d e ds es js h in
    let rest = length-joined ds es p.others p.is_others in
    (ap length p.whole ∙ ap suc rest.0, ap suc rest.1)

value_at-joined_cons : (d e j : Digit) (ds es ks : List Digit) (i : ℕ) → joined_digit d e ≡ Some j → length ks ≡ length ds → length es ≡ length ds → value_at ks i ≡ option_or (value_at ds i) (value_at es i) → value_at (j ∷ ks) i ≡ option_or (value_at (d ∷ ds) i) (value_at (e ∷ es) i)
value_at-joined_cons d e j ds es ks i h lk le rest = go (cases_eq i (length ds))
  where
    go : (i ≡ length ds) ⊎ (i ≢ length ds) → value_at (j ∷ ks) i ≡ option_or (value_at (d ∷ ds) i) (value_at (e ∷ es) i)
    go (inl here) =
        let left = ap (λ x. option_or x (digit_value e)) (value_at-here d ds i here) in
        let right = ap (λ x. option_or (value_at (d ∷ ds) i) x) (value_at-here e es i (here ∙ sym le)) in
        value_at-here j ks i (here ∙ sym lk) ∙ digit_value-joined d e j h ∙ sym left ∙ sym right
    go (inr apart) =
        let left = ap (λ x. option_or x (value_at es i)) (value_at-there d ds i apart) in
        let right = ap (λ x. option_or (value_at (d ∷ ds) i) x) (value_at-there e es i (λ k. apart (k ∙ le))) in
        value_at-there j ks i (λ k. apart (k ∙ lk)) ∙ rest ∙ sym left ∙ sym right

-- a bit is fixed in a join where either pattern fixes it, to the same value
pub value_at-joined : (ds es js : List Digit) → joined ds es ≡ Some js → (i : ℕ) → value_at js i ≡ option_or (value_at ds i) (value_at es i)
value_at-joined [] [] js h i = let e : js ≡ [] = cc in ap (λ ks. value_at ks i) e
value_at-joined [] (e ∷ es) js h i = absurd (cc)
value_at-joined (d ∷ ds) [] js h i = absurd (cc)
value_at-joined (d ∷ ds) (e ∷ es) js h i =
    let p = joined-cons d e ds es js h in
    let lens = length-joined ds es p.others p.is_others in
    ap (λ ks. value_at ks i) p.whole ∙ value_at-joined_cons d e p.first ds es p.others i p.is_first lens.0 lens.1 (value_at-joined ds es p.others p.is_others i)

pattern_holds-joined_cons : (d e j : Digit) (ds es ks : List Digit) (w : ℕ) → joined_digit d e ≡ Some j → length ks ≡ length ds → length es ≡ length ds → pattern_holds ks w ≡ (pattern_holds ds w && pattern_holds es w) → pattern_holds (j ∷ ks) w ≡ (pattern_holds (d ∷ ds) w && pattern_holds (e ∷ es) w)
pattern_holds-joined_cons d e j ds es ks w h lk le rest =
    let b = bit_of w (length ds) in
    ap (λ n. digit_holds j (bit_of w n) && pattern_holds ks w) lk
    ∙ ap (λ x. x && pattern_holds ks w) (digit_holds-joined d e j b h)
    ∙ ap (λ x. (digit_holds d b && digit_holds e b) && x) rest
    ∙ and_swap (digit_holds d b) (digit_holds e b) (pattern_holds ds w) (pattern_holds es w)
    ∙ ap (λ n. (digit_holds d b && pattern_holds ds w) && (digit_holds e (bit_of w n) && pattern_holds es w)) (sym le)

-- a join holds where both patterns do
pub pattern_holds-joined : (ds es js : List Digit) (w : ℕ) → joined ds es ≡ Some js → pattern_holds js w ≡ (pattern_holds ds w && pattern_holds es w)
pattern_holds-joined [] [] js w h = let e : js ≡ [] = cc in ap (λ ks. pattern_holds ks w) e
pattern_holds-joined [] (e ∷ es) js w h = absurd (cc)
pattern_holds-joined (d ∷ ds) [] js w h = absurd (cc)
pattern_holds-joined (d ∷ ds) (e ∷ es) js w h =
    let p = joined-cons d e ds es js h in
    let lens = length-joined ds es p.others p.is_others in
    ap (λ ks. pattern_holds ks w) p.whole ∙ pattern_holds-joined_cons d e p.first ds es p.others w p.is_first lens.0 lens.1 (pattern_holds-joined ds es p.others w p.is_others)

joined_digit_comm : (d e : Digit) → joined_digit d e ≡ joined_digit e d
joined_digit_comm Zero Zero = refl
joined_digit_comm Zero One = refl
joined_digit_comm Zero Either = refl
joined_digit_comm One Zero = refl
joined_digit_comm One One = refl
joined_digit_comm One Either = refl
joined_digit_comm Either Zero = refl
joined_digit_comm Either One = refl
joined_digit_comm Either Either = refl

-- the order of two patterns is free
pub joined_comm : (ds es : List Digit) → joined ds es ≡ joined es ds
joined_comm [] [] = refl
joined_comm [] (e ∷ es) = refl
joined_comm (d ∷ ds) [] = refl
joined_comm (d ∷ ds) (e ∷ es) =
    ap (λ o. option_and_then (λ j. option_map (λ js. j ∷ js) (joined ds es)) o) (joined_digit_comm d e)
    ∙ ap (λ r. option_and_then (λ j. option_map (λ js. j ∷ js) r) (joined_digit e d)) (joined_comm ds es)

-- a bit that two patterns fix to different values
pub record Clash (ds es : List Digit) : Type 0 where
  pub at : ℕ
  pub left : ℕ
  pub right : ℕ
  pub is_left : value_at ds at ≡ Some left
  pub is_right : value_at es at ≡ Some right
  pub differ : left ≢ right

-- patterns that clash have no join
pub Clash-joined : (ds es : List Digit) → Clash ds es → joined ds es ≡ None
Clash-joined ds es c = go (joined ds es) refl
  where
    go : (o : Option (List Digit)) → joined ds es ≡ o → joined ds es ≡ None
    go None h = h
    go (Some js) h =
        let here = value_at-joined ds es js h c.at in
        let there = value_at-joined es ds js (joined_comm es ds ∙ h) c.at in
        let same : Some c.left ≡ Some c.right = ap (λ x. option_or x (value_at es c.at)) (sym c.is_left) ∙ sym here ∙ there ∙ ap (λ x. option_or x (value_at ds c.at)) c.is_right in
        absurd (c.differ (cc))

Clash-here : (d e : Digit) (ds es : List Digit) → length ds ≡ length es → joined_digit d e ≡ None → Clash (d ∷ ds) (e ∷ es)
Clash-here Zero One ds es lens h = record { at = length ds; left = 0; right = 1; is_left = value_at-here Zero ds (length ds) refl; is_right = value_at-here One es (length ds) lens; differ = λ z. omega arith }
Clash-here One Zero ds es lens h = record { at = length ds; left = 1; right = 0; is_left = value_at-here One ds (length ds) refl; is_right = value_at-here Zero es (length ds) lens; differ = λ z. omega arith }
Clash-here Zero Zero ds es lens h = absurd (cc)
Clash-here Zero Either ds es lens h = absurd (cc)
Clash-here One One ds es lens h = absurd (cc)
Clash-here One Either ds es lens h = absurd (cc)
Clash-here Either e ds es lens h = absurd (cc)

Clash-there : (d e : Digit) (ds es : List Digit) → length ds ≡ length es → Clash ds es → Clash (d ∷ ds) (e ∷ es)
Clash-there d e ds es lens c =
    let below = value_at-lt ds c.at c.left c.is_left in
    record {
      at = c.at;
      left = c.left;
      right = c.right;
      differ = c.differ;
      is_left = value_at-there d ds c.at (λ k. omega arith) ∙ c.is_left;
      is_right = value_at-there e es c.at (λ k. omega arith) ∙ c.is_right;
    }

-- and patterns of one width that have none clash
pub joined-none : (ds es : List Digit) → length ds ≡ length es → joined ds es ≡ None → Clash ds es
joined-none [] [] lens h = absurd (cc)
joined-none [] (e ∷ es) lens h = absurd (omega arith)
joined-none (d ∷ ds) [] lens h = absurd (omega arith)
joined-none (d ∷ ds) (e ∷ es) lens h =
    let lens' : length ds ≡ length es = omega arith in
    go lens' (λ r. joined-none ds es lens' r) (joined_digit d e) refl (joined ds es) refl h
  where
    go : length ds ≡ length es → (joined ds es ≡ None → Clash ds es) → (o : Option Digit) → joined_digit d e ≡ o → (r : Option (List Digit)) → joined ds es ≡ r → option_and_then (λ j. option_map (λ ks. j ∷ ks) r) o ≡ None → Clash (d ∷ ds) (e ∷ es)
    go same further None p r q k = Clash-here d e ds es same p
    go same further (Some j) p None q k = Clash-there d e ds es same (further q)
    go same further (Some j) p (Some ks) q k = absurd (cc)
