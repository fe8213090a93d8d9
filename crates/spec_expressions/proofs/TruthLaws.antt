-- The tables of truths.
use Rattle.std.proofs.Common.{◌≡◌, refl, sym, Bool, true, false, not, ◌&&◌, ◌||◌}
use Rattle.spec_expressions.specs.Truth.{Truth, Yes, No, Open, truth_of, negation, conjunction, disjunction, implication, equivalence}
use Rattle.spec_expressions.specs.Laws.{AreKleene}

pub negation-twice : (a : Truth) → negation (negation a) ≡ a
negation-twice Yes = refl
negation-twice No = refl
negation-twice Open = refl

-- a No at either side decides
pub conjunction-no : (a : Truth) → conjunction a No ≡ No
conjunction-no Yes = refl
conjunction-no No = refl
conjunction-no Open = refl

pub negation-conjunction : (a b : Truth) → negation (conjunction a b) ≡ disjunction (negation a) (negation b)
negation-conjunction Yes b = refl
negation-conjunction No b = refl
negation-conjunction Open Yes = refl
negation-conjunction Open No = refl
negation-conjunction Open Open = refl

negation-disjunction : (a b : Truth) → negation (disjunction a b) ≡ conjunction (negation a) (negation b)
negation-disjunction Yes b = refl
negation-disjunction No b = refl
negation-disjunction Open Yes = refl
negation-disjunction Open No = refl
negation-disjunction Open Open = refl

equivalence-implications : (a b : Truth) → equivalence a b ≡ conjunction (implication a b) (implication b a)
equivalence-implications Yes Yes = refl
equivalence-implications Yes No = refl
equivalence-implications Yes Open = refl
equivalence-implications No Yes = refl
equivalence-implications No No = refl
equivalence-implications No Open = refl
equivalence-implications Open Yes = refl
equivalence-implications Open No = refl
equivalence-implications Open Open = refl

pub are_kleene : AreKleene
are_kleene = record {
  not_known = not_is;
  and_known = and_is;
  or_known = or_is;
  twice = negation-twice;
  and_no = conjunction-no;
  and_yes = and_yes;
  and_itself = and_itself;
  and_sides = and_sides;
  not_and = negation-conjunction;
  not_or = negation-disjunction;
  implies = λ a b. refl;
  iff = equivalence-implications;
}
  where
    not_is : (a : Bool) → negation (truth_of a) ≡ truth_of (not a)
    not_is true = refl
    not_is false = refl

    and_is : (a b : Bool) → conjunction (truth_of a) (truth_of b) ≡ truth_of (a && b)
    and_is true b = refl
    and_is false b = refl

    or_is : (a b : Bool) → disjunction (truth_of a) (truth_of b) ≡ truth_of (a || b)
    or_is true b = refl
    or_is false b = refl

    and_yes : (a : Truth) → conjunction a Yes ≡ a
    and_yes Yes = refl
    and_yes No = refl
    and_yes Open = refl

    and_itself : (a : Truth) → conjunction a a ≡ a
    and_itself Yes = refl
    and_itself No = refl
    and_itself Open = refl

    and_sides : (a b : Truth) → conjunction a b ≡ conjunction b a
    and_sides Yes b = sym (and_yes b)
    and_sides No b = sym (conjunction-no b)
    and_sides Open Yes = refl
    and_sides Open No = refl
    and_sides Open Open = refl
