-- When two expressions state one fact.
use Rattle.std.proofs.Common.{◌≡◌, Bool, true, ◌&&◌, List, [], ◌∷◌, Some, refl, sym, ap, ◌∙◌}
use Rattle.std.specs.Prelude.{bytes_eq}
use Rattle.std.specs.Bool.{Decides}
use Rattle.std.proofs.lemmas.Bool.{false≢true, and_parts, and_from}
use Rattle.std.proofs.lemmas.Bool.Decides.{Decides-int_eq}
use Rattle.std.proofs.lemmas.Slice.Eq.{bytes_eq-Decides}
use Rattle.spec_bits.specs.Pattern.{Digit, Zero, One, Either}
use Rattle.spec_expressions.specs.Expression.{Op, And, Or, Implies, Iff, Eq, Ne, Lt, Le, Gt, Ge, Member, op_text, op_named, FunctionOf, UInt, IsZero, IsOnes, IsFeatureImplemented, Named, ExprOf, Boolean, Integer, Bits, Name, Not, Binary, Call, Set, Join, Slice, Other, ExprsOf, no_exprs, expr}
use Rattle.spec_features.specs.Fact.{same_digit, same_digits, same_op, same_function, same_fact, same_facts, no_other, no_others}
use Rattle.spec_features.specs.Laws.{FactsAreEqual}
use Rattle.spec_features.proofs.Encoding.{same_is, same_refl}

digit_is : (d e : Digit) → same_digit d e ≡ true → d ≡ e
digit_is Zero Zero h = refl
digit_is One One h = refl
digit_is Either Either h = refl
digit_is d e h = absurd (false≢true h)

digit_refl : (d : Digit) → same_digit d d ≡ true
digit_refl Zero = refl
digit_refl One = refl
digit_refl Either = refl

digits_are : (ds es : List Digit) → same_digits ds es ≡ true → ds ≡ es
digits_are [] [] h = refl
digits_are (d ∷ ds) (e ∷ es) h = let p = and_parts (same_digit d e) (same_digits ds es) h in ap (λ x. x ∷ ds) (digit_is d e p.0) ∙ ap (λ xs. e ∷ xs) (digits_are ds es p.1)
digits_are ds es h = absurd (false≢true h)

digits_refl : (ds : List Digit) → same_digits ds ds ≡ true
digits_refl [] = refl
digits_refl (d ∷ ds) = and_from (same_digit d d) (same_digits ds ds) (digit_refl d) (digits_refl ds)

named_back : (o : Op) → op_named (op_text o) ≡ Some o
named_back And = refl
named_back Or = refl
named_back Implies = refl
named_back Iff = refl
named_back Eq = refl
named_back Ne = refl
named_back Lt = refl
named_back Le = refl
named_back Gt = refl
named_back Ge = refl
named_back Member = refl

op_is : (o p : Op) → same_op o p ≡ true → o ≡ p
op_is o p h = some_is (sym (named_back o) ∙ ap op_named ((bytes_eq-Decides (op_text o) (op_text p)).0 h) ∙ named_back p)
  where
    some_is : {a b : Op} → Some a ≡ Some b → a ≡ b
    some_is e = cc

op_refl : (o : Op) → same_op o o ≡ true
op_refl o = (bytes_eq-Decides (op_text o) (op_text o)).1 refl

-- over names whose comparison decides whether they are equal
module _ {N : Type 0} (same : N → N → Bool) (decides : (m n : N) → Decides (same m n) (m ≡ n)) where
  function_is : (f g : FunctionOf N) → same_function same f g ≡ true → f ≡ g
  function_is UInt UInt h = refl
  function_is IsZero IsZero h = refl
  function_is IsOnes IsOnes h = refl
  function_is IsFeatureImplemented IsFeatureImplemented h = refl
  function_is (Named m) (Named n) h = ap Named ((decides m n).0 h)
  function_is f g h = absurd (false≢true h)

  function_refl : (f : FunctionOf N) → same_function same f f ≡ true
  function_refl UInt = refl
  function_refl IsZero = refl
  function_refl IsOnes = refl
  function_refl IsFeatureImplemented = refl
  function_refl (Named m) = (decides m m).1 refl

  mutual
    pub fact_is : (e f : ExprOf N) → same_fact same e f ≡ true → (e ≡ f) × (no_other e ≡ true)
    fact_is (Boolean a) (Boolean b) h = (ap Boolean (sym (same_is a b h)), refl)
    fact_is (Integer a) (Integer b) h = (ap Integer ((Decides-int_eq a b).0 h), refl)
    fact_is (Bits ds) (Bits es) h = (ap Bits (digits_are ds es h), refl)
    fact_is (Name m) (Name n) h = (ap Name ((decides m n).0 h), refl)
    fact_is (Not e) (Not f) h = let p = fact_is e f h in (ap Not p.0, p.1)
    fact_is (Binary o l r) (Binary p l' r') h =
        let k = and_parts (same_op o p) (same_fact same l l' && same_fact same r r') h in
        let q = and_parts (same_fact same l l') (same_fact same r r') k.1 in
        let left = fact_is l l' q.0 in
        let right = fact_is r r' q.1 in
        (ap (λ o. Binary o l r) (op_is o p k.0) ∙ ap (λ l. Binary p l r) left.0 ∙ ap (λ r. Binary p l' r) right.0, and_from (no_other l) (no_other r) left.1 right.1)
    fact_is (Call f es) (Call g fs) h =
        let k = and_parts (same_function same f g) (same_facts same es fs) h in
        let parts = facts_are es fs k.1 in
        (ap (λ f. Call f es) (function_is f g k.0) ∙ ap (λ es. Call g es) parts.0, parts.1)
    fact_is (Set es) (Set fs) h = let p = facts_are es fs h in (ap Set p.0, p.1)
    fact_is (Join es) (Join fs) h = let p = facts_are es fs h in (ap Join p.0, p.1)
    fact_is (Slice a b c) (Slice a' b' c') h =
        let k = and_parts (same_fact same a a') (same_fact same b b' && same_fact same c c') h in
        let q = and_parts (same_fact same b b') (same_fact same c c') k.1 in
        let x = fact_is a a' k.0 in
        let y = fact_is b b' q.0 in
        let z = fact_is c c' q.1 in
        (ap (λ a. Slice a b c) x.0 ∙ ap (λ b. Slice a' b c) y.0 ∙ ap (λ c. Slice a' b' c) z.0, and_from (no_other a) (no_other b && no_other c) x.1 (and_from (no_other b) (no_other c) y.1 z.1))
    fact_is e f h = absurd (false≢true h)

    facts_are : (es fs : ExprsOf N) → same_facts same es fs ≡ true → (es ≡ fs) × (no_others es ≡ true)
    facts_are no_exprs no_exprs h = (refl, refl)
    facts_are (expr e es) (expr f fs) h =
        let k = and_parts (same_fact same e f) (same_facts same es fs) h in
        let first = fact_is e f k.0 in
        let rest = facts_are es fs k.1 in
        (ap (λ e. expr e es) first.0 ∙ ap (λ es. expr f es) rest.0, and_from (no_other e) (no_others es) first.1 rest.1)
    facts_are es fs h = absurd (false≢true h)

  mutual
    pub fact_itself : (e : ExprOf N) → no_other e ≡ true → same_fact same e e ≡ true
    fact_itself (Boolean a) h = same_refl a
    fact_itself (Integer a) h = (Decides-int_eq a a).1 refl
    fact_itself (Bits ds) h = digits_refl ds
    fact_itself (Name m) h = (decides m m).1 refl
    fact_itself (Not e) h = fact_itself e h
    fact_itself (Binary o l r) h =
        let k = and_parts (no_other l) (no_other r) h in
        and_from (same_op o o) (same_fact same l l && same_fact same r r) (op_refl o) (and_from (same_fact same l l) (same_fact same r r) (fact_itself l k.0) (fact_itself r k.1))
    fact_itself (Call f es) h = and_from (same_function same f f) (same_facts same es es) (function_refl f) (facts_themselves es h)
    fact_itself (Set es) h = facts_themselves es h
    fact_itself (Join es) h = facts_themselves es h
    fact_itself (Slice a b c) h =
        let k = and_parts (no_other a) (no_other b && no_other c) h in
        let q = and_parts (no_other b) (no_other c) k.1 in
        and_from (same_fact same a a) (same_fact same b b && same_fact same c c) (fact_itself a k.0)
        (and_from (same_fact same b b) (same_fact same c c) (fact_itself b q.0) (fact_itself c q.1))
    fact_itself Other h = absurd (false≢true h)

    facts_themselves : (es : ExprsOf N) → no_others es ≡ true → same_facts same es es ≡ true
    facts_themselves no_exprs h = refl
    facts_themselves (expr e es) h =
        let k = and_parts (no_other e) (no_others es) h in
        and_from (same_fact same e e) (same_facts same es es) (fact_itself e k.0) (facts_themselves es k.1)

pub facts_are_equal : FactsAreEqual
facts_are_equal e f = (λ h. fact_is bytes_eq bytes_eq-Decides e f h, λ p. ap (λ g. same_fact bytes_eq e g) (sym p.0) ∙ fact_itself bytes_eq bytes_eq-Decides e p.1)
