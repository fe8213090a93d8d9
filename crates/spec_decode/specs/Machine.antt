-- What words are looked up in.
use Rattle.std.specs.Prelude.{List}
use Rattle.spec_expressions.specs.Scope.{Configuration}
use Rattle.spec_instructions.specs.Tree.{Own}
use Rattle.spec_instructions.specs.Aliases.{AliasPath}

-- a machine: the paths to the leaves of its set of instructions, leaf number k being the k-th from 0, the aliases of these
-- leaves, alias number a being the a-th, and the configuration in use, which says what features it has
pub record Machine : Type 0 where
  pub paths : List (List Own)
  pub aliases : List AliasPath
  pub configuration : Configuration
