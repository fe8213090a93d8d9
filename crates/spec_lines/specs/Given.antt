-- What the tokens behind a label give: fields with their numbers, as pairs, and maybe a rest.
use Rattle.std.specs.Prelude.{ℕ, ◌^◌, ◌==◌, nat_lt, List, [], ◌∷◌, ◌++◌, length, codes, bytes_eq, Option, Some, None, option_map, option_and_then, Result, Ok, Err, if◌then◌else◌}
use Rattle.spec_command.specs.Setting.{setting_in}
use Rattle.spec_command.specs.Number.{number_below}
use Rattle.spec_lines.specs.Token.{Token}
use Rattle.spec_lines.specs.LineFault.{LineFault, Pair, Many, refused}

-- numbers are below this
abbrev pub number_bound : ℕ
number_bound = 2 ^ 32

-- the most pairs. A rest is not among them
abbrev pub pair_limit : ℕ
pair_limit = 256

-- `NAME=NUMBER`: what stands before the first `=`, which is not empty, and the number behind it
abbrev pub pair_in : List ℕ → Option (List ℕ × ℕ)
pair_in text = option_and_then (λ setting. if length setting.0 == 0 then None else option_map (λ n. (setting.0, n)) (number_below number_bound setting.1)) (setting_in text)

pub record Given : Type 0 where
  pub pairs : List (List ℕ × ℕ)
  pub rest : Option ℕ

abbrev pub nothing : Given
nothing = record { pairs = []; rest = None }

-- `rest` may be given once
abbrev pub with_rest : ℕ → Given → ℕ → Option ℕ → Result Given LineFault
with_rest at given value None = Ok (record given { rest = Some value })
with_rest at given value (Some before) = refused at Pair

-- what is given with the pair of a token at a place, which is refused where the token is no pair
abbrev pub with_pair : ℕ → Given → Option (List ℕ × ℕ) → Result Given LineFault
with_pair at given None = refused at Pair
with_pair at given (Some pair) =
    if bytes_eq pair.0 (codes "rest") then with_rest at given pair.1 given.rest else
    (if nat_lt (length given.pairs) pair_limit then Ok (record given { pairs = given.pairs ++ pair ∷ [] }) else refused at Many)

abbrev pub and_then : Result Given LineFault → (Given → Result Given LineFault) → Result Given LineFault
and_then (Ok given) next = next given
and_then (Err fault) next = Err fault

-- what is given with the pairs of more tokens, from the left
abbrev pub given_behind : Given → List Token → Result Given LineFault
given_behind given [] = Ok given
given_behind given (token ∷ tokens) = and_then (with_pair token.at given (pair_in token.text)) (λ next. given_behind next tokens)
