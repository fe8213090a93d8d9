-- The word that a line of assembly says, or the first reason why it says none. A line is `word NUMBER`, or `leaf LABEL`
-- or `alias LABEL` with the shown fields of the leaf or the alias, and maybe its rest, in any order. The rules are this project's own.
use Rattle.std.specs.Prelude.{ℕ, nat_lt, List, [], ◌∷◌, length, codes, bytes_eq, Option, Some, None, option_map, unwrap_or, Result, Ok, Err, if◌then◌else◌}
use Rattle.spec_instructions.specs.Paths.{labelled_leaf}
use Rattle.spec_instructions.specs.Aliases.{labelled_alias}
use Rattle.spec_decode.specs.Machine.{Machine}
use Rattle.spec_encoding.specs.Refusal.{Refusal}
use Rattle.spec_encoding.specs.Encoding.{encoding}
use Rattle.spec_command.specs.Number.{number_below}
use Rattle.spec_lines.specs.Way.{Way, ByLeaf, ByAlias, way_path}
use Rattle.spec_lines.specs.Token.{Token, tokens}
use Rattle.spec_lines.specs.LineFault.{LineFault, Long, Head, Label, Pair, Encode, refused}
use Rattle.spec_lines.specs.Given.{Given, number_bound, nothing, given_behind}

-- the most bytes of a line, without its LF
abbrev pub line_limit : ℕ
line_limit = 65536

-- a number that stands alone: no token follows it
abbrev pub number_alone : ℕ → List Token → Option ℕ → Result ℕ LineFault
number_alone at tokens None = refused at Pair
number_alone at [] (Some w) = Ok w
number_alone at (token ∷ tokens) (Some w) = refused token.at Pair

-- what the tokens behind `word` say: one number. `end` is the length of the line, where missing tokens are refused
abbrev pub of_word : ℕ → List Token → Result ℕ LineFault
of_word end [] = refused end Pair
of_word end (number ∷ tokens) = number_alone number.at tokens (number_below number_bound number.text)

-- what is given for a leaf or an alias is encoded along its path. An encoder's refusal is told at the label
abbrev pub encoded_at : ℕ → Way → Result ℕ (Refusal (List ℕ)) → Result ℕ LineFault
encoded_at at way (Ok w) = Ok w
encoded_at at way (Err why) = refused at (Encode way why)

abbrev pub of_given : Machine → ℕ → Way → Result Given LineFault → Result ℕ LineFault
of_given machine at way (Err fault) = Err fault
of_given machine at way (Ok given) = encoded_at at way (encoding (way_path machine way) machine.configuration given.pairs (unwrap_or given.rest 0))

abbrev pub of_label : Machine → ℕ → List Token → Option Way → Result ℕ LineFault
of_label machine at tokens None = refused at Label
of_label machine at tokens (Some way) = of_given machine at way (given_behind nothing tokens)

-- what the tokens behind `leaf` say, and behind `alias`: a label, and then what is given
abbrev pub of_leaf : Machine → ℕ → List Token → Result ℕ LineFault
of_leaf machine end [] = refused end Label
of_leaf machine end (label ∷ tokens) = of_label machine label.at tokens (option_map ByLeaf (labelled_leaf machine.paths label.text))

abbrev pub of_alias : Machine → ℕ → List Token → Result ℕ LineFault
of_alias machine end [] = refused end Label
of_alias machine end (label ∷ tokens) = of_label machine label.at tokens (option_map ByAlias (labelled_alias machine.aliases label.text))

-- what the tokens of a line say
abbrev pub of_tokens : Machine → ℕ → List Token → Result ℕ LineFault
of_tokens machine end [] = refused end Head
of_tokens machine end (head ∷ tokens) =
    if bytes_eq head.text (codes "word") then of_word end tokens else
    (if bytes_eq head.text (codes "leaf") then of_leaf machine end tokens else
    (if bytes_eq head.text (codes "alias") then of_alias machine end tokens else refused head.at Head))

-- what a line says, without its LF
abbrev pub parsed : Machine → List ℕ → Result ℕ LineFault
parsed machine line = if nat_lt line_limit (length line) then refused line_limit Long else of_tokens machine (length line) (tokens line)
