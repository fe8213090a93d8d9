-- Worked values: what the definitions say of small documents.
use Rattle.std.specs.Prelude.{◌≡◌, ℕ, List, [], ◌∷◌, Option, Some, Result, Ok, Err, option_map, codes, map, refl, true, false}
use Rattle.std.specs.Fmt.{digits}
use Rattle.serde_json.specs.Read.{read}
use Rattle.serde_json.proofs.OnLiterals.{serde_json_on_literals}
use Rattle.spec_bits.specs.Pattern.{One, Either}
use Rattle.spec_bits.specs.PatternText.{Unquoted}
use Rattle.spec_walk.specs.Event.{Why, Fault, Missing, UnlistedKind, WrongShape, BadPattern, BadRange, BadName, Doubled, NoSet}
use Rattle.spec_walk.specs.Limits.{◌>>=◌}
use Rattle.spec_expressions.specs.Expression.{Name}
use Rattle.spec_instructions.specs.Kind.{Set, Group, Leaf, Alias}
use Rattle.spec_instructions.specs.Tree.{node, no_nodes, more, bare}
use Rattle.spec_instructions.specs.Paths.{path_name}
use Rattle.spec_instructions.specs.Reading.{tree_read, paths_read, aliases_read}

-- the names of the leaves of a text, with the set `A64` chosen, or its first fault
abbrev leaves_in : List ℕ → Option (Result (List (List ℕ)) Fault)
leaves_in text = option_map (λ d. paths_read (codes "A64") [] d >>= λ paths. Ok (map path_name paths)) (read text)

abbrev at_place : List ℕ → Why → Option (Result (List (List ℕ)) Fault)
at_place at why = Some (Err (record { at = at; why = why }))

-- one set with one field and no children
one_field : leaves_in (codes "{\"instructions\":[{\"_type\":\"Instruction.InstructionSet\",\"name\":\"A64\",\"encoding\":{\"_type\":\"Instruction.Encodeset.Encodeset\",\"width\":32,\"values\":[{\"_type\":\"Instruction.Encodeset.Field\",\"name\":\"op0\",\"range\":{\"start\":26,\"width\":3},\"value\":{\"_type\":\"Values.Value\",\"value\":\"'100'\"}}]}}]}") ≡ Some (Ok [])
unfolding digits serde_json_on_literals
one_field = refl

-- a quote that is not closed
open_quote : leaves_in (codes "{\"instructions\":[{\"_type\":\"Instruction.InstructionSet\",\"name\":\"A64\",\"encoding\":{\"_type\":\"Instruction.Encodeset.Encodeset\",\"width\":32,\"values\":[{\"_type\":\"Instruction.Encodeset.Field\",\"name\":\"op0\",\"range\":{\"start\":26,\"width\":3},\"value\":{\"_type\":\"Values.Value\",\"value\":\"'01\"}}]}}]}") ≡ at_place (codes "/instructions/0/encoding/values/0/value/value") (BadPattern (Unquoted 0))
unfolding digits serde_json_on_literals
open_quote = refl

-- two digits for a range of three bits
too_few_digits : leaves_in (codes "{\"instructions\":[{\"_type\":\"Instruction.InstructionSet\",\"name\":\"A64\",\"encoding\":{\"_type\":\"Instruction.Encodeset.Encodeset\",\"width\":32,\"values\":[{\"_type\":\"Instruction.Encodeset.Field\",\"name\":\"op0\",\"range\":{\"start\":26,\"width\":3},\"value\":{\"_type\":\"Values.Value\",\"value\":\"'01'\"}}]}}]}") ≡ at_place (codes "/instructions/0/encoding/values/0/value/value") BadRange
unfolding digits serde_json_on_literals
too_few_digits = refl

-- the empty object
no_instructions : leaves_in (codes "{}") ≡ at_place (codes "") (Missing (codes "instructions"))
unfolding digits serde_json_on_literals
no_instructions = refl

-- an array is no document
no_document : leaves_in (codes "[]") ≡ at_place (codes "") WrongShape
unfolding digits serde_json_on_literals
no_document = refl

-- no set has the chosen name
other_set : leaves_in (codes "{\"instructions\":[{\"_type\":\"Instruction.InstructionSet\",\"name\":\"A32\"}]}") ≡ at_place (codes "/instructions") NoSet
unfolding digits serde_json_on_literals
other_set = refl

-- an unlisted kind among the children
unlisted : leaves_in (codes "{\"instructions\":[{\"_type\":\"Instruction.InstructionSet\",\"name\":\"A64\",\"children\":[{\"_type\":\"Instruction.Foo\"}]}]}") ≡ at_place (codes "/instructions/0/children/0") UnlistedKind
unfolding digits serde_json_on_literals
unlisted = refl

-- two leaves, one in a group, and an instance that is passed over
two_leaves : leaves_in (codes "{\"instructions\":[{\"_type\":\"Instruction.InstructionSet\",\"name\":\"A64\",\"children\":[{\"_type\":\"Instruction.InstructionGroup\",\"name\":\"g\",\"children\":[{\"_type\":\"Instruction.Instruction\",\"name\":\"l\"},{\"_type\":\"Instruction.InstructionInstance\"}]},{\"_type\":\"Instruction.Instruction\",\"name\":\"m\"}]}]}") ≡ Some (Ok (codes "l" ∷ codes "m" ∷ []))
unfolding digits serde_json_on_literals
two_leaves = refl

-- a set with two leaves of one name, all without items: the paths to the leaves
namesakes : option_map (λ d. paths_read (codes "A64") [] d) (read (codes "{\"instructions\":[{\"_type\":\"Instruction.InstructionSet\",\"name\":\"A64\",\"children\":[{\"_type\":\"Instruction.Instruction\",\"name\":\"DUP\"},{\"_type\":\"Instruction.Instruction\",\"name\":\"DUP\"}]}]}"))
    ≡ Some (Ok ((bare Set (codes "A64") ∷ bare Leaf (codes "DUP") ∷ [])
    ∷ (bare Set (codes "A64") ∷ bare Leaf (codes "DUP") ∷ []) ∷ []))
unfolding digits serde_json_on_literals
namesakes = refl

-- the tree of a set with a group, its leaf, an instance and a field: names take numbers in the order in which they are met
small_tree : option_map (λ d. tree_read (codes "A64") (codes "Rd" ∷ []) d) (read (codes "{\"instructions\":[{\"_type\":\"Instruction.InstructionSet\",\"name\":\"A64\",\"children\":[{\"_type\":\"Instruction.InstructionGroup\",\"name\":\"g\",\"encoding\":{\"_type\":\"Instruction.Encodeset.Encodeset\",\"width\":32,\"values\":[{\"_type\":\"Instruction.Encodeset.Field\",\"name\":\"Rd\",\"range\":{\"start\":3,\"width\":2},\"value\":{\"_type\":\"Values.Value\",\"value\":\"'1x'\"},\"should_be_mask\":{\"_type\":\"Values.Value\",\"value\":\"11\"}}]},\"children\":[{\"_type\":\"Instruction.Instruction\",\"name\":\"l\"},{\"_type\":\"Instruction.InstructionInstance\"}]}]}]}"))
    ≡ Some (Ok (node (bare Set (codes "A64")) (more (node (record (bare Group (codes "g")) { items = record { name = Some (codes "Rd"); start = 3; digits = One ∷ Either ∷ []; marks = true ∷ false ∷ [] } ∷ [] }) (more (node (bare Leaf (codes "l")) no_nodes) no_nodes)) no_nodes), record { held = codes "Rd" ∷ codes "A64" ∷ codes "g" ∷ codes "l" ∷ []; nodes = 3; leaves = 1; aliases = 0; expressions = 0 }))
unfolding digits serde_json_on_literals
small_tree = refl

-- a condition is an expression, read behind the items; where it is null or absent there is none
conditioned : option_map (λ d. tree_read (codes "A64") [] d) (read (codes "{\"instructions\":[{\"_type\":\"Instruction.InstructionSet\",\"name\":\"A64\",\"condition\":null,\"children\":[{\"_type\":\"Instruction.Instruction\",\"name\":\"l\",\"condition\":{\"_type\":\"AST.Identifier\",\"value\":\"F\"}}]}]}"))
    ≡ Some (Ok (node (bare Set (codes "A64")) (more (node (record (bare Leaf (codes "l")) { condition = Some (Name (codes "F")) }) no_nodes) no_nodes), record { held = codes "A64" ∷ codes "l" ∷ codes "F" ∷ []; nodes = 2; leaves = 1; aliases = 0; expressions = 1 }))
unfolding digits serde_json_on_literals
conditioned = refl

-- what is no object is no expression
no_expression : leaves_in (codes "{\"instructions\":[{\"_type\":\"Instruction.InstructionSet\",\"name\":\"A64\",\"children\":[{\"_type\":\"Instruction.Instruction\",\"name\":\"l\",\"condition\":true}]}]}") ≡ at_place (codes "/instructions/0/children/0/condition") WrongShape
unfolding digits serde_json_on_literals
no_expression = refl

-- an alias is read: its name, its items, its condition and its preference, and none of its children
aliased : option_map (λ d. tree_read (codes "A64") [] d) (read (codes "{\"instructions\":[{\"_type\":\"Instruction.InstructionSet\",\"name\":\"A64\",\"children\":[{\"_type\":\"Instruction.Instruction\",\"name\":\"l\",\"children\":[{\"_type\":\"Instruction.InstructionInstance\"},{\"_type\":\"Instruction.InstructionAlias\",\"name\":\"m\",\"encoding\":{\"_type\":\"Instruction.Encodeset.Encodeset\",\"width\":32,\"values\":[{\"_type\":\"Instruction.Encodeset.Field\",\"name\":\"Rd\",\"range\":{\"start\":3,\"width\":2},\"value\":{\"_type\":\"Values.Value\",\"value\":\"1x\"}}]},\"condition\":null,\"preferred\":{\"_type\":\"AST.Identifier\",\"value\":\"F\"},\"children\":7},{\"_type\":\"Instruction.InstructionAlias\",\"name\":\"n\",\"preferred\":null}]}]}]}"))
    ≡ Some (Ok (
      node (bare Set (codes "A64")) (more (node (bare Leaf (codes "l"))
          (more (node (record (bare Alias (codes "m")) { items = record { name = Some (codes "Rd"); start = 3; digits = One ∷ Either ∷ []; marks = false ∷ false ∷ [] } ∷ []; preferred = Some (Name (codes "F")) }) no_nodes)
          (more (node (bare Alias (codes "n")) no_nodes) no_nodes))) no_nodes),
      record { held = codes "A64" ∷ codes "l" ∷ codes "m" ∷ codes "Rd" ∷ codes "F" ∷ codes "n" ∷ []; nodes = 4; leaves = 1; aliases = 2; expressions = 1 },
    ))
unfolding digits serde_json_on_literals
aliased = refl

-- the aliases of two leaves, the second of which has one
two_leaves_aliased : option_map (λ d. aliases_read (codes "A64") [] d) (read (codes "{\"instructions\":[{\"_type\":\"Instruction.InstructionSet\",\"name\":\"A64\",\"children\":[{\"_type\":\"Instruction.Instruction\",\"name\":\"l\"},{\"_type\":\"Instruction.Instruction\",\"name\":\"k\",\"children\":[{\"_type\":\"Instruction.InstructionAlias\",\"name\":\"m\"}]}]}]}"))
    ≡ Some (Ok (record { leaf = 1; above = bare Set (codes "A64") ∷ bare Leaf (codes "k") ∷ []; own = bare Alias (codes "m") } ∷ []))
unfolding digits serde_json_on_literals
two_leaves_aliased = refl

-- the name comes first
nameless_alias : leaves_in (codes "{\"instructions\":[{\"_type\":\"Instruction.InstructionSet\",\"name\":\"A64\",\"children\":[{\"_type\":\"Instruction.Instruction\",\"name\":\"l\",\"children\":[{\"_type\":\"Instruction.InstructionAlias\",\"preferred\":true}]}]}]}") ≡ at_place (codes "/instructions/0/children/0/children/0") (Missing (codes "name"))
unfolding digits serde_json_on_literals
nameless_alias = refl

-- a preference is an expression, which no leaf has
no_preference : leaves_in (codes "{\"instructions\":[{\"_type\":\"Instruction.InstructionSet\",\"name\":\"A64\",\"children\":[{\"_type\":\"Instruction.Instruction\",\"name\":\"l\",\"preferred\":true,\"children\":[{\"_type\":\"Instruction.InstructionAlias\",\"name\":\"m\",\"preferred\":true}]}]}]}") ≡ at_place (codes "/instructions/0/children/0/children/0/preferred") WrongShape
unfolding digits serde_json_on_literals
no_preference = refl

-- an alias stands in leaves alone
alias_in_set : leaves_in (codes "{\"instructions\":[{\"_type\":\"Instruction.InstructionSet\",\"name\":\"A64\",\"children\":[{\"_type\":\"Instruction.InstructionAlias\",\"name\":\"m\"}]}]}") ≡ at_place (codes "/instructions/0/children/0") UnlistedKind
unfolding digits serde_json_on_literals
alias_in_set = refl

-- a leaf stands in no leaf
leaf_in_leaf : leaves_in (codes "{\"instructions\":[{\"_type\":\"Instruction.InstructionSet\",\"name\":\"A64\",\"children\":[{\"_type\":\"Instruction.Instruction\",\"name\":\"l\",\"children\":[{\"_type\":\"Instruction.Instruction\",\"name\":\"l\"}]}]}]}") ≡ at_place (codes "/instructions/0/children/0/children/0") UnlistedKind
unfolding digits serde_json_on_literals
leaf_in_leaf = refl

-- a second set of the chosen name
two_sets : leaves_in (codes "{\"instructions\":[{\"_type\":\"Instruction.InstructionSet\",\"name\":\"A64\"},{\"_type\":\"Instruction.InstructionSet\",\"name\":\"A64\"},5]}") ≡ at_place (codes "/instructions/1/name") Doubled
unfolding digits serde_json_on_literals
two_sets = refl

-- two fields of one name in one encodeset, of which the second has no range
two_fields : leaves_in (codes "{\"instructions\":[{\"_type\":\"Instruction.InstructionSet\",\"name\":\"A64\",\"encoding\":{\"_type\":\"Instruction.Encodeset.Encodeset\",\"width\":32,\"values\":[{\"_type\":\"Instruction.Encodeset.Field\",\"name\":\"op0\",\"range\":{\"start\":0,\"width\":1},\"value\":{\"_type\":\"Values.Value\",\"value\":\"x\"}},{\"_type\":\"Instruction.Encodeset.Field\",\"name\":\"op0\"}]}}]}") ≡ at_place (codes "/instructions/0/encoding/values/1/name") Doubled
unfolding digits serde_json_on_literals
two_fields = refl

-- a field must not be named `rest`
field_rest : leaves_in (codes "{\"instructions\":[{\"_type\":\"Instruction.InstructionSet\",\"name\":\"A64\",\"encoding\":{\"_type\":\"Instruction.Encodeset.Encodeset\",\"width\":32,\"values\":[{\"_type\":\"Instruction.Encodeset.Field\",\"name\":\"rest\",\"range\":{\"start\":0,\"width\":1},\"value\":{\"_type\":\"Values.Value\",\"value\":\"x\"}}]}}]}") ≡ at_place (codes "/instructions/0/encoding/values/0/name") BadName
unfolding digits serde_json_on_literals
field_rest = refl

-- a leaf may be named so
leaf_rest : leaves_in (codes "{\"instructions\":[{\"_type\":\"Instruction.InstructionSet\",\"name\":\"A64\",\"children\":[{\"_type\":\"Instruction.Instruction\",\"name\":\"rest\"}]}]}") ≡ Some (Ok (codes "rest" ∷ []))
unfolding digits serde_json_on_literals
leaf_rest = refl

-- a name with a sign that stands for something else
hash_name : leaves_in (codes "{\"instructions\":[{\"_type\":\"Instruction.InstructionSet\",\"name\":\"A64\",\"children\":[{\"_type\":\"Instruction.Instruction\",\"name\":\"a#1\"}]}]}") ≡ at_place (codes "/instructions/0/children/0/name") BadName
unfolding digits serde_json_on_literals
hash_name = refl

-- another width than that of words
narrow : leaves_in (codes "{\"instructions\":[{\"_type\":\"Instruction.InstructionSet\",\"name\":\"A64\",\"encoding\":{\"_type\":\"Instruction.Encodeset.Encodeset\",\"width\":31,\"values\":[]}}]}") ≡ at_place (codes "/instructions/0/encoding/width") WrongShape
unfolding digits serde_json_on_literals
narrow = refl

-- a range that passes the word
past_the_word : leaves_in (codes "{\"instructions\":[{\"_type\":\"Instruction.InstructionSet\",\"name\":\"A64\",\"encoding\":{\"_type\":\"Instruction.Encodeset.Encodeset\",\"width\":32,\"values\":[{\"_type\":\"Instruction.Encodeset.Field\",\"name\":\"a\",\"range\":{\"start\":30,\"width\":3},\"value\":{\"_type\":\"Values.Value\",\"value\":\"xxx\"}}]}}]}") ≡ at_place (codes "/instructions/0/encoding/values/0/range") BadRange
unfolding digits serde_json_on_literals
past_the_word = refl

-- a number that is no whole number of 32 bits, before the range is judged
huge_start : leaves_in (codes "{\"instructions\":[{\"_type\":\"Instruction.InstructionSet\",\"name\":\"A64\",\"encoding\":{\"_type\":\"Instruction.Encodeset.Encodeset\",\"width\":32,\"values\":[{\"_type\":\"Instruction.Encodeset.Field\",\"name\":\"a\",\"range\":{\"start\":4294967296,\"width\":0},\"value\":{\"_type\":\"Values.Value\",\"value\":\"\"}}]}}]}") ≡ at_place (codes "/instructions/0/encoding/values/0/range/start") WrongShape
unfolding digits serde_json_on_literals
huge_start = refl

-- a mask with too few digits
short_mask : leaves_in (codes "{\"instructions\":[{\"_type\":\"Instruction.InstructionSet\",\"name\":\"A64\",\"encoding\":{\"_type\":\"Instruction.Encodeset.Encodeset\",\"width\":32,\"values\":[{\"_type\":\"Instruction.Encodeset.Field\",\"name\":\"a\",\"range\":{\"start\":0,\"width\":2},\"value\":{\"_type\":\"Values.Value\",\"value\":\"01\"},\"should_be_mask\":{\"_type\":\"Values.Value\",\"value\":\"1\"}}]}}]}") ≡ at_place (codes "/instructions/0/encoding/values/0/should_be_mask/value") BadRange
unfolding digits serde_json_on_literals
short_mask = refl

-- null where a member is needed
null_values : leaves_in (codes "{\"instructions\":[{\"_type\":\"Instruction.InstructionSet\",\"name\":\"A64\",\"encoding\":{\"_type\":\"Instruction.Encodeset.Encodeset\",\"width\":32,\"values\":null}}]}") ≡ at_place (codes "/instructions/0/encoding/values") WrongShape
unfolding digits serde_json_on_literals
null_values = refl

-- a set that is passed over has a kind and a name, and nothing else of it is read
passed_over : leaves_in (codes "{\"instructions\":[{\"_type\":\"Instruction.InstructionSet\",\"name\":\"A32\",\"encoding\":7,\"children\":\"x\"},{\"_type\":\"Instruction.InstructionSet\",\"name\":\"A64\"}]}") ≡ Some (Ok [])
unfolding digits serde_json_on_literals
passed_over = refl
