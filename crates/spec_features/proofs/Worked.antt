-- The definitions at worked features, by computing.
use Rattle.std.proofs.Common.{◌≡◌, ℕ, pos, negsuc, Bool, true, false, List, [], ◌∷◌, Option, Some, None, refl}
use Rattle.std.specs.Prelude.{codes, bytes_eq}
use Rattle.spec_expressions.specs.Expression.{And, Or, Implies, Iff, Eq, IsFeatureImplemented, Named, Expr, Boolean, Name, Not, Binary, Call, Other, no_exprs, expr}
use Rattle.spec_expressions.specs.Scope.{Flag}
use Rattle.spec_features.specs.Features.{ABoolean, AnInteger, Param, Features}
use Rattle.spec_features.specs.Formula.{Conjunction, Variable, Negation, Joined}
use Rattle.spec_features.specs.Theory.{TheoryOf, theory, states}
use Rattle.spec_features.specs.Fits.{PinOf, unknown_pin}
use Rattle.spec_features.specs.Choice.{all_states, first_fitting, first_configuration}
use Rattle.spec_features.specs.Clauses.{variables, clauses}

abbrev boolean : List ℕ → Param
boolean s = record { name = s; kind = ABoolean }

abbrev feature : List ℕ → Expr
feature s = Call IsFeatureImplemented (expr (Name s) no_exprs)

abbrev has_el2 : Expr
has_el2 = Call (Named (codes "HaveEL")) (expr (Name (codes "EL2")) no_exprs)

-- ---- three features and one atom, under three constraints

abbrev three : List Param
three = boolean (codes "FEAT_AES") ∷ boolean (codes "FEAT_PMULL") ∷ boolean (codes "FEAT_TST") ∷ []

abbrev small : Features
small = record {
  params = three;
  constraints = Binary Implies (Name (codes "FEAT_PMULL")) (Name (codes "FEAT_AES"))
      ∷ Not (Binary And (Name (codes "FEAT_TST")) (Name (codes "FEAT_AES")))
      ∷ Binary Or (Name (codes "FEAT_TST")) has_el2 ∷ [];
}

abbrev small_theory : TheoryOf (List ℕ)
small_theory = theory bytes_eq small

abbrev clashing : List (PinOf (List ℕ))
clashing = (codes "FEAT_PMULL", true) ∷ (codes "FEAT_AES", false) ∷ []

one_atom : states small_theory ≡ 4
one_atom = refl

seven_variables : variables small_theory ≡ 7
seven_variables = refl

fourteen_clauses : clauses bytes_eq small_theory clashing ≡
    (pos 5 ∷ pos 2 ∷ [])
    ∷ (pos 5 ∷ negsuc 0 ∷ [])
    ∷ (negsuc 4 ∷ negsuc 1 ∷ pos 1 ∷ [])
    ∷ (pos 5 ∷ [])
    ∷ (negsuc 5 ∷ pos 3 ∷ [])
    ∷ (negsuc 5 ∷ pos 1 ∷ [])
    ∷ (pos 6 ∷ negsuc 2 ∷ negsuc 0 ∷ [])
    ∷ (negsuc 5 ∷ [])
    ∷ (pos 7 ∷ negsuc 2 ∷ [])
    ∷ (pos 7 ∷ negsuc 3 ∷ [])
    ∷ (negsuc 6 ∷ pos 3 ∷ pos 4 ∷ [])
    ∷ (pos 7 ∷ [])
    ∷ (pos 2 ∷ [])
    ∷ (negsuc 0 ∷ []) ∷ []
fourteen_clauses = refl

-- ---- configurations, with one pin, two or none

-- all lists of two states
in_order : all_states 2 ≡ (true ∷ true ∷ []) ∷ (true ∷ false ∷ []) ∷ (false ∷ true ∷ []) ∷ (false ∷ false ∷ []) ∷ []
in_order = refl

-- the first list of states that fits
abbrev first_of : List (PinOf (List ℕ)) → Option (List Bool)
first_of pins = first_fitting bytes_eq small_theory pins

-- with no pin all but FEAT_TST are on
no_pin : first_of [] ≡ Some (true ∷ true ∷ false ∷ true ∷ [])
no_pin = refl

aes_off : first_of ((codes "FEAT_AES", false) ∷ []) ≡ Some (false ∷ false ∷ true ∷ true ∷ [])
aes_off = refl

-- FEAT_AES off is in use with the states of all three, and the atom behind them
in_use : first_configuration small_theory ((codes "FEAT_AES", false) ∷ [])
    ≡ Some (record { parameters = record { name = codes "FEAT_AES"; state = Flag false } ∷ record { name = codes "FEAT_PMULL"; state = Flag false } ∷ record { name = codes "FEAT_TST"; state = Flag true } ∷ []; atoms = true ∷ [] })
in_use = refl

tst_on : first_of ((codes "FEAT_TST", true) ∷ []) ≡ Some (false ∷ false ∷ true ∷ true ∷ [])
tst_on = refl

clash : first_of clashing ≡ None
clash = refl

-- the second pin names no feature of these
third_unknown : unknown_pin bytes_eq small_theory.names ((codes "FEAT_TST", true) ∷ (codes "EL2", true) ∷ []) ≡ Some 1
third_unknown = refl

-- a pin on and a pin off of one feature without constraints: one variable, two clauses
both_pinned : clauses bytes_eq (theory bytes_eq (record { params = boolean (codes "A") ∷ []; constraints = [] })) ((codes "A", true) ∷ (codes "A", false) ∷ [])
    ≡ (pos 1 ∷ []) ∷ (negsuc 0 ∷ []) ∷ []
both_pinned = refl

-- ---- atoms

abbrev over_a : List Expr → TheoryOf (List ℕ)
over_a es = theory bytes_eq (record { params = boolean (codes "A") ∷ record { name = codes "N"; kind = AnInteger } ∷ []; constraints = es })

-- atoms are one where they are equal part by part
equal_atoms : over_a (Binary And has_el2 has_el2 ∷ has_el2 ∷ [])
    ≡ record { names = codes "A" ∷ []; atoms = 1; constraints = Joined Conjunction (Variable 2) (Variable 2) ∷ Variable 2 ∷ [] }
equal_atoms = refl

-- an Other is equal to none, not even to one that is written alike, and so is what holds one
others : over_a (Binary And Other Other ∷ Not (Call (Named (codes "F")) (expr Other no_exprs)) ∷ Call (Named (codes "F")) (expr Other no_exprs) ∷ [])
    ≡ record { names = codes "A" ∷ []; atoms = 4; constraints = Joined Conjunction (Variable 2) (Variable 3) ∷ Negation (Variable 4) ∷ Variable 5 ∷ [] }
others = refl

-- a feature may be asked for by its name alone or by the function; a name of no boolean parameter is an atom, and as an
-- argument of the function another one
names : over_a (feature (codes "A") ∷ Name (codes "A") ∷ Name (codes "N") ∷ feature (codes "N") ∷ [])
    ≡ record { names = codes "A" ∷ []; atoms = 2; constraints = Variable 1 ∷ Variable 1 ∷ Variable 2 ∷ Variable 3 ∷ [] }
names = refl

-- other operators than connectives make atoms, whatever stands inside, and the sides of an atom may not change places
comparisons : over_a (Binary Eq (Name (codes "A")) (Boolean true) ∷ Binary Eq (Boolean true) (Name (codes "A")) ∷ Binary Eq (Name (codes "A")) (Boolean true) ∷ [])
    ≡ record { names = codes "A" ∷ []; atoms = 2; constraints = Variable 2 ∷ Variable 3 ∷ Variable 2 ∷ [] }
comparisons = refl

-- a truth is no atom and takes an auxiliary
truths : clauses bytes_eq (over_a (Boolean false ∷ Not (Boolean true) ∷ [])) []
    ≡ (negsuc 1 ∷ []) ∷ (pos 2 ∷ []) ∷ (pos 3 ∷ []) ∷ (negsuc 2 ∷ []) ∷ []
truths = refl

-- Iff
sames : clauses bytes_eq (over_a (Binary Iff (Name (codes "A")) has_el2 ∷ [])) []
    ≡ (negsuc 2 ∷ negsuc 0 ∷ pos 2 ∷ []) ∷ (negsuc 2 ∷ pos 1 ∷ negsuc 1 ∷ []) ∷ (pos 3 ∷ pos 1 ∷ pos 2 ∷ []) ∷ (pos 3 ∷ negsuc 0 ∷ negsuc 1 ∷ []) ∷ (pos 3 ∷ []) ∷ []
sames = refl
