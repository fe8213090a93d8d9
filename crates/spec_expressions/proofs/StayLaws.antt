-- What is known stays, whatever becomes known of further parameters.
use Rattle.std.proofs.Common.{◌≡◌, ◌∙◌, refl, ap, ap₂, subst₂, ℕ, ℤ, List, [], ◌∷◌, Bool, Option, Some, None, ◌⊎◌, inl, inr, int_lt, int_le}
use Rattle.std.specs.Prelude.{⊤}
use Rattle.spec_expressions.specs.Expression.{Op, And, Or, Implies, Iff, Eq, Ne, Lt, Le, Gt, Ge, Member, Function, UInt, IsZero, IsOnes, IsFeatureImplemented, Named, Expr, Boolean, Integer, Bits, Name, Not, Binary, Call, Set, Join, Slice, Other, Exprs, no_exprs, expr}
use Rattle.spec_expressions.specs.Truth.{Truth, Yes, No, Open, negation, conjunction, disjunction, equivalence}
use Rattle.spec_expressions.specs.Scope.{Field, field_named, State, Configuration, state_of}
use Rattle.spec_expressions.specs.Operations.{Value, ATruth, ANumber, APattern, as_truth, equal, compared, among, member, binary, unsigned, all_are, digits_in_a_row, in_a_row, sliced}
use Rattle.spec_expressions.specs.Value.{state_value, name_value, implemented, call, value, values, elements}
use Rattle.spec_expressions.specs.Known.{Extends, Stays, KnownStays}
use Rattle.spec_expressions.proofs.TruthLaws.{negation-twice, conjunction-no, negation-conjunction}

-- ---- truths

-- a truth was Open, or it is the same
abbrev pub Kept : Truth → Truth → Type 0
Kept before after = (before ≡ Open) ⊎ (after ≡ before)

pub kept-negation : (a b : Truth) → Kept a b → Kept (negation a) (negation b)
kept-negation a b (inl e) = inl (ap negation e)
kept-negation a b (inr e) = inr (ap negation e)

kept-open-and : (a b c : Truth) → Kept b c → Kept (conjunction Open b) (conjunction a c)
kept-open-and a Yes c k = inl refl
kept-open-and a Open c k = inl refl
kept-open-and a No c (inl e) = absurd cc
kept-open-and a No c (inr e) = inr (ap (conjunction a) e ∙ conjunction-no a)

kept-and-open : (a b c : Truth) → Kept a b → Kept (conjunction a Open) (conjunction b c)
kept-and-open Yes b c k = inl refl
kept-and-open Open b c k = inl refl
kept-and-open No b c (inl e) = absurd cc
kept-and-open No b c (inr e) = inr (ap (λ x. conjunction x c) e)

kept-conjunction : (a b c d : Truth) → Kept a b → Kept c d → Kept (conjunction a c) (conjunction b d)
kept-conjunction a b c d (inr e) (inr f) = inr (ap₂ conjunction e f)
kept-conjunction a b c d (inl e) l = rw e (kept-open-and b c d l)
kept-conjunction a b c d (inr e) (inl f) = rw f (kept-and-open a b d (inr e))

disjunction-is : (a b : Truth) → negation (conjunction (negation a) (negation b)) ≡ disjunction a b
disjunction-is a b = negation-conjunction (negation a) (negation b) ∙ ap₂ disjunction (negation-twice a) (negation-twice b)

kept-disjunction : (a b c d : Truth) → Kept a b → Kept c d → Kept (disjunction a c) (disjunction b d)
kept-disjunction a b c d k l =
    subst₂ Kept (disjunction-is a c) (disjunction-is b d)
    (kept-negation (conjunction (negation a) (negation c)) (conjunction (negation b) (negation d)) (kept-conjunction (negation a) (negation b) (negation c) (negation d) (kept-negation a b k) (kept-negation c d l)))

equivalence-open : (a : Truth) → equivalence a Open ≡ Open
equivalence-open Yes = refl
equivalence-open No = refl
equivalence-open Open = refl

kept-equivalence : (a b c d : Truth) → Kept a b → Kept c d → Kept (equivalence a c) (equivalence b d)
kept-equivalence a b c d (inr e) (inr f) = inr (ap₂ equivalence e f)
kept-equivalence a b c d (inl e) l = inl (ap (λ x. equivalence x c) e)
kept-equivalence a b c d (inr e) (inl f) = inl (ap (equivalence a) f ∙ equivalence-open a)

-- ---- two values

pub kept-as_truth : (a b : Value) → Stays a b → Kept (as_truth a) (as_truth b)
kept-as_truth a b (inl e) = inl (ap as_truth e)
kept-as_truth a b (inr e) = inr (ap as_truth e)

pub stays-truth : (a b : Truth) → Kept a b → Stays (ATruth a) (ATruth b)
stays-truth a b (inl e) = inl (ap ATruth e)
stays-truth a b (inr e) = inr (ap ATruth e)

-- a truth of two values that is Open where one of them is
kept-two : (f : Value → Value → Truth) → ((b : Value) → f (ATruth Open) b ≡ Open) → ((a : Value) → f a (ATruth Open) ≡ Open) → (a b c d : Value) → Stays a b → Stays c d → Kept (f a c) (f b d)
kept-two f left right a b c d (inr e) (inr h) = inr (ap₂ f e h)
kept-two f left right a b c d (inl e) l = inl (ap (λ x. f x c) e ∙ left c)
kept-two f left right a b c d (inr e) (inl h) = inl (ap (f a) h ∙ right a)

open-equal : (b : Value) → equal (ATruth Open) b ≡ Open
open-equal (ATruth t) = refl
open-equal (ANumber z) = refl
open-equal (APattern ds) = refl

equal-open : (a : Value) → equal a (ATruth Open) ≡ Open
equal-open (ATruth t) = equivalence-open t
equal-open (ANumber z) = refl
equal-open (APattern ds) = refl

kept-equal : (a b c d : Value) → Stays a b → Stays c d → Kept (equal a c) (equal b d)
kept-equal = kept-two equal open-equal equal-open

open-compared : (test : ℤ → ℤ → Bool) (b : Value) → compared test (ATruth Open) b ≡ Open
open-compared test b = refl

compared-open : (test : ℤ → ℤ → Bool) (a : Value) → compared test a (ATruth Open) ≡ Open
compared-open test (ATruth t) = refl
compared-open test (ANumber z) = refl
compared-open test (APattern ds) = refl

kept-compared : (test : ℤ → ℤ → Bool) (a b c d : Value) → Stays a b → Stays c d → Kept (compared test a c) (compared test b d)
kept-compared test = kept-two (compared test) (open-compared test) (compared-open test)

-- ---- lists of values

-- as many values, each of which stays
abbrev pub AllStay : List Value → List Value → Type 0
AllStay [] [] = ⊤
AllStay [] (y ∷ ys) = ⊥
AllStay (x ∷ xs) [] = ⊥
AllStay (x ∷ xs) (y ∷ ys) = Stays x y × AllStay xs ys

-- the elements of a Set, or of what is none
abbrev pub ElementsStay : Option (List Value) → Option (List Value) → Type 0
ElementsStay None ys = ⊤
ElementsStay (Some xs) None = ⊥
ElementsStay (Some xs) (Some ys) = AllStay xs ys

kept-among : (a b : Value) (xs ys : List Value) → Stays a b → AllStay xs ys → Kept (among a xs) (among b ys)
kept-among a b [] [] k all = inr refl
kept-among a b [] (y ∷ ys) k all = absurd all
kept-among a b (x ∷ xs) [] k all = absurd all
kept-among a b (x ∷ xs) (y ∷ ys) k all = kept-disjunction (equal a x) (equal b y) (among a xs) (among b ys) (kept-equal a b x y k all.0) (kept-among a b xs ys k all.1)

kept-member : (a b : Value) (xs ys : Option (List Value)) → Stays a b → ElementsStay xs ys → Kept (member a xs) (member b ys)
kept-member a b None ys k all = inl refl
kept-member a b (Some xs) None k all = absurd all
kept-member a b (Some xs) (Some ys) k all = kept-among a b xs ys k all

pub kept-binary : (op : Op) (a b c d : Value) (xs ys : Option (List Value)) → Stays a b → Stays c d → ElementsStay xs ys → Kept (binary op a c xs) (binary op b d ys)
kept-binary And a b c d xs ys k l all = kept-conjunction (as_truth a) (as_truth b) (as_truth c) (as_truth d) (kept-as_truth a b k) (kept-as_truth c d l)
kept-binary Or a b c d xs ys k l all = kept-disjunction (as_truth a) (as_truth b) (as_truth c) (as_truth d) (kept-as_truth a b k) (kept-as_truth c d l)
kept-binary Implies a b c d xs ys k l all = kept-disjunction (negation (as_truth a)) (negation (as_truth b)) (as_truth c) (as_truth d) (kept-negation (as_truth a) (as_truth b) (kept-as_truth a b k)) (kept-as_truth c d l)
kept-binary Iff a b c d xs ys k l all = kept-equivalence (as_truth a) (as_truth b) (as_truth c) (as_truth d) (kept-as_truth a b k) (kept-as_truth c d l)
kept-binary Eq a b c d xs ys k l all = kept-equal a b c d k l
kept-binary Ne a b c d xs ys k l all = kept-negation (equal a c) (equal b d) (kept-equal a b c d k l)
kept-binary Lt a b c d xs ys k l all = kept-compared int_lt a b c d k l
kept-binary Le a b c d xs ys k l all = kept-compared int_le a b c d k l
kept-binary Gt a b c d xs ys k l all = kept-compared (λ x y. int_lt y x) a b c d k l
kept-binary Ge a b c d xs ys k l all = kept-compared (λ x y. int_le y x) a b c d k l
kept-binary Member a b c d xs ys k l all = kept-member a b xs ys k all

-- a value of one value that is Open where that is
stays-one : (f : Value → Value) → f (ATruth Open) ≡ ATruth Open → (a b : Value) → Stays a b → Stays (f a) (f b)
stays-one f at_open a b (inl e) = inl (ap f e ∙ at_open)
stays-one f at_open a b (inr e) = inr (ap f e)

digits_in_a_row-stay : (xs ys : List Value) → AllStay xs ys → (digits_in_a_row xs ≡ None) ⊎ (ys ≡ xs)
digits_in_a_row-stay [] [] all = inr refl
digits_in_a_row-stay [] (y ∷ ys) all = absurd all
digits_in_a_row-stay (x ∷ xs) [] all = absurd all
digits_in_a_row-stay (x ∷ xs) (y ∷ ys) all = go x all.0 (digits_in_a_row-stay xs ys all.1)
  where
    go : (x : Value) → Stays x y → (digits_in_a_row xs ≡ None) ⊎ (ys ≡ xs) → (digits_in_a_row (x ∷ xs) ≡ None) ⊎ (y ∷ ys ≡ x ∷ xs)
    go x (inr e) (inr h) = inr (ap₂ (λ a b. a ∷ b) e h)
    go (ATruth t) k l = inl refl
    go (ANumber z) k l = inl refl
    go (APattern ds) (inl e) l = absurd cc
    go (APattern ds) (inr e) (inl h) = inl (rw h refl)

pub stays-in_a_row : (xs ys : List Value) → AllStay xs ys → Stays (in_a_row xs) (in_a_row ys)
stays-in_a_row [] [] all = inr refl
stays-in_a_row [] (y ∷ ys) all = absurd all
stays-in_a_row (x ∷ xs) [] all = absurd all
stays-in_a_row (x ∷ xs) (y ∷ ys) all = go (digits_in_a_row-stay (x ∷ xs) (y ∷ ys) all)
  where
    go : (digits_in_a_row (x ∷ xs) ≡ None) ⊎ (y ∷ ys ≡ x ∷ xs) → Stays (in_a_row (x ∷ xs)) (in_a_row (y ∷ ys))
    go (inl e) = inl (rw e refl)
    go (inr e) = inr (ap in_a_row e)

sliced-high_open : (v low : Value) → sliced v (ATruth Open) low ≡ ATruth Open
sliced-high_open (ATruth t) low = refl
sliced-high_open (ANumber z) low = refl
sliced-high_open (APattern ds) low = refl

sliced-low_open : (v high : Value) → sliced v high (ATruth Open) ≡ ATruth Open
sliced-low_open (ATruth t) high = refl
sliced-low_open (ANumber z) high = refl
sliced-low_open (APattern ds) (ATruth t) = refl
sliced-low_open (APattern ds) (ANumber z) = refl
sliced-low_open (APattern ds) (APattern es) = refl

pub stays-sliced : (a b c d e f : Value) → Stays a b → Stays c d → Stays e f → Stays (sliced a c e) (sliced b d f)
stays-sliced a b c d e f (inl h) l m = inl (ap (λ v. sliced v c e) h)
stays-sliced a b c d e f (inr h) (inl i) m = inl (ap (λ v. sliced a v e) i ∙ sliced-high_open a e)
stays-sliced a b c d e f (inr h) (inr i) (inl j) = inl (ap (sliced a c) j ∙ sliced-low_open a c)
stays-sliced a b c d e f (inr h) (inr i) (inr j) = inr (rw (h, i, j) refl)

-- ---- names and functions

stays-state : (s t : Option State) → ((state : State) → s ≡ Some state → t ≡ Some state) → Stays (state_value s) (state_value t)
stays-state None t same = inl refl
stays-state (Some state) t same = inr (ap state_value (same state refl))

stays-name : (found : Option Field) (s t : Option State) (w : ℕ) → ((state : State) → s ≡ Some state → t ≡ Some state) → Stays (name_value found s w) (name_value found t w)
stays-name (Some f) s t w same = inr refl
stays-name None s t w same = stays-state s t same

kept-implemented : (es : Exprs) (g h : Configuration) → Extends h g → Kept (implemented es g) (implemented es h)
kept-implemented (expr (Name s) no_exprs) g h more = kept-as_truth (state_value (state_of s g)) (state_value (state_of s h)) (stays-state (state_of s g) (state_of s h) (more s))
kept-implemented es g h more = inl refl

-- a function of one value; `asked` is on the feature that its argument may name
stays-call-one : (f : Function) (es fs : Exprs) (x y : Value) (g h : Configuration) → Stays x y → Kept (implemented es g) (implemented fs h) → Stays (call f es (x ∷ []) g) (call f fs (y ∷ []) h)
stays-call-one UInt es fs x y g h k asked = stays-one unsigned refl x y k
stays-call-one IsZero es fs x y g h k asked = stays-one (λ v. ATruth (all_are 0 v)) refl x y k
stays-call-one IsOnes es fs x y g h k asked = stays-one (λ v. ATruth (all_are 1 v)) refl x y k
stays-call-one IsFeatureImplemented es fs x y g h k asked = stays-truth (implemented es g) (implemented fs h) asked
stays-call-one (Named s) es fs x y g h k asked = inl refl

stays-call-none : (f : Function) (es fs : Exprs) (g h : Configuration) → Kept (implemented es g) (implemented fs h) → Stays (call f es [] g) (call f fs [] h)
stays-call-none IsFeatureImplemented es fs g h asked = stays-truth (implemented es g) (implemented fs h) asked
stays-call-none f es fs g h asked = inl refl

stays-call-more : (f : Function) (es fs : Exprs) (a b : Value) (xs : List Value) (c d : Value) (ys : List Value) (g h : Configuration) → Kept (implemented es g) (implemented fs h)
    → Stays (call f es (a ∷ b ∷ xs) g) (call f fs (c ∷ d ∷ ys) h)
stays-call-more IsFeatureImplemented es fs a b xs c d ys g h asked = stays-truth (implemented es g) (implemented fs h) asked
stays-call-more f es fs a b xs c d ys g h asked = inl refl

pub stays-call : (f : Function) (es fs : Exprs) (xs ys : List Value) (g h : Configuration) → AllStay xs ys → Kept (implemented es g) (implemented fs h) → Stays (call f es xs g) (call f fs ys h)
stays-call f es fs [] [] g h all asked = stays-call-none f es fs g h asked
stays-call f es fs [] (y ∷ ys) g h all asked = absurd all
stays-call f es fs (x ∷ xs) [] g h all asked = absurd all
stays-call f es fs (x ∷ []) (y ∷ []) g h all asked = stays-call-one f es fs x y g h all.0 asked
stays-call f es fs (x ∷ []) (y ∷ d ∷ ys) g h all asked = absurd all.1
stays-call f es fs (x ∷ b ∷ xs) (y ∷ []) g h all asked = absurd all.1
stays-call f es fs (x ∷ b ∷ xs) (y ∷ d ∷ ys) g h all asked = stays-call-more f es fs x b xs y d ys g h asked

-- ---- expressions

mutual
  pub stays : (e : Expr) (g h : Configuration) (fields : List Field) (w : ℕ) → Extends h g → Stays (value e g fields w) (value e h fields w)
  stays (Boolean b) g h fields w more = inr refl
  stays (Integer z) g h fields w more = inr refl
  stays (Bits ds) g h fields w more = inr refl
  stays (Name s) g h fields w more = stays-name (field_named s fields) (state_of s g) (state_of s h) w (more s)
  stays (Not e) g h fields w more =
      stays-truth _ _ (kept-negation (as_truth (value e g fields w)) (as_truth (value e h fields w)) (kept-as_truth (value e g fields w) (value e h fields w) (stays e g h fields w more)))
  stays (Binary op l r) g h fields w more =
      stays-truth _ _ (kept-binary op (value l g fields w) (value l h fields w) (value r g fields w) (value r h fields w) (elements r g fields w) (elements r h fields w)
      (stays l g h fields w more) (stays r g h fields w more) (elements-stay r g h fields w more))
  stays (Call f es) g h fields w more = stays-call f es es (values es g fields w) (values es h fields w) g h (values-stay es g h fields w more) (kept-implemented es g h more)
  stays (Set es) g h fields w more = inr refl
  stays (Join es) g h fields w more = stays-in_a_row (values es g fields w) (values es h fields w) (values-stay es g h fields w more)
  stays (Slice e high low) g h fields w more =
      stays-sliced (value e g fields w) (value e h fields w) (value high g fields w) (value high h fields w) (value low g fields w) (value low h fields w)
      (stays e g h fields w more) (stays high g h fields w more) (stays low g h fields w more)
  stays Other g h fields w more = inr refl

  values-stay : (es : Exprs) (g h : Configuration) (fields : List Field) (w : ℕ) → Extends h g → AllStay (values es g fields w) (values es h fields w)
  values-stay no_exprs g h fields w more = tt
  values-stay (expr e es) g h fields w more = (stays e g h fields w more, values-stay es g h fields w more)

  pub elements-stay : (e : Expr) (g h : Configuration) (fields : List Field) (w : ℕ) → Extends h g → ElementsStay (elements e g fields w) (elements e h fields w)
  elements-stay (Set es) g h fields w more = values-stay es g h fields w more
  elements-stay e g h fields w more = tt

pub known_stays : KnownStays
known_stays e g h fields w more = stays e g h fields w more
