-- Truths of three values: Open stands for a truth that is not known, and what follows from the others alone is known all the
-- same. The tables are the strong ones of three-valued logic in S. C. Kleene, Introduction to Metamathematics (1952),
-- section 64.
use Rattle.std.specs.Prelude.{Bool, true, false}

pub data Truth : Type 0 where
  Yes : Truth
  No : Truth
  Open : Truth

abbrev pub truth_of : Bool → Truth
truth_of true = Yes
truth_of false = No

abbrev pub negation : Truth → Truth
negation Yes = No
negation No = Yes
negation Open = Open

-- No where a side is No, and Yes where both are Yes
abbrev pub conjunction : Truth → Truth → Truth
conjunction Yes b = b
conjunction No b = No
conjunction Open Yes = Open
conjunction Open No = No
conjunction Open Open = Open

-- Yes where a side is Yes, and No where both are No
abbrev pub disjunction : Truth → Truth → Truth
disjunction Yes b = Yes
disjunction No b = b
disjunction Open Yes = Yes
disjunction Open No = Open
disjunction Open Open = Open

-- `a --> b` is `!a` or `b`
abbrev pub implication : Truth → Truth → Truth
implication a b = disjunction (negation a) b

-- whether two truths are equal: Open where a side is Open
abbrev pub equivalence : Truth → Truth → Truth
equivalence Yes b = b
equivalence No b = negation b
equivalence Open b = Open
