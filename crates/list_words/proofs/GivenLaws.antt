-- What the tokens behind a label give, a token at a time.
use Rattle.std.proofs.Common.{◌≡◌, ◌∙◌, sym, ap, ℕ, ◌<◌, true, false, nat_lt, List, [], ◌∷◌, ◌++◌, length, Option, Some, Ok, Err, bytes_eq, codes, arith}
use Rattle.std.specs.Prelude.{Result}
use Rattle.std.proofs.lemmas.Bool.Decides.{nat_tests}
use Rattle.spec_lines.specs.Token.{Token}
use Rattle.spec_lines.specs.LineFault as fault
use Rattle.spec_lines.specs.Given as spec
use Rattle.insn_tree.specs.declared.field_range.FieldRange.{FieldRange}
use Rattle.insn_tree.specs.Trees.{TreeParts}
use Rattle.list_words.specs.declared.line_fault.LineFault.{LineFault}
use Rattle.list_words.specs.declared.given.Given.{Given}
use Rattle.list_words.specs.Faults.{IsRefused}
use Rattle.list_words.specs.Givens.{IsGiven, IsSome}

-- a pair for which there is room
pub put_is : (names : List (List ℕ)) (fields : List FieldRange) (code later : Given) (given : spec.Given) (at value : ℕ) (name : List ℕ) (pair : Option (List ℕ × ℕ))
    → IsGiven names fields code given → Some (name, value) ≡ pair → bytes_eq name (codes "rest") ≡ false → code.count < 256
    → IsGiven names fields later (record given { pairs = given.pairs ++ (name, value) ∷ [] }) → IsSome names fields later (spec.with_pair at given pair)
put_is names fields code later given at value name pair h is other room put =
    let fits : nat_lt (length given.pairs) 256 ≡ true = grind (arith, nat_tests, h.count) in
    let step : spec.with_pair at given (Some (name, value)) ≡ Ok (record given { pairs = given.pairs ++ (name, value) ∷ [] }) = rw (other, fits) in
    record { given = record given { pairs = given.pairs ++ (name, value) ∷ [] }; is = ap (spec.with_pair at given) (sym is) ∙ step; given_is = put }

-- a token that is refused
pub refused_is : (names : List (List ℕ)) (tree : TreeParts) (why : LineFault) (given : spec.Given) (token : Token) (tokens left all : List Token)
    → IsRefused names tree why (spec.with_pair token.at given (spec.pair_in token.text)) → left ≡ token ∷ tokens → spec.given_behind given left ≡ spec.given_behind spec.nothing all
    → IsRefused names tree why (spec.given_behind spec.nothing all)
refused_is names tree why given token tokens left all h first is =
    let step : spec.given_behind given (token ∷ tokens) ≡ Err h.fault = ap (λ (r : Result spec.Given fault.LineFault). spec.and_then r (λ next. spec.given_behind next tokens)) h.is in
    record { fault = h.fault; is = sym is ∙ ap (spec.given_behind given) first ∙ step; fault_is = h.fault_is }
