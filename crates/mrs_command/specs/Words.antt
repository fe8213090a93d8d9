-- The words behind a command, as the code holds them.
use Rattle.std.specs.Prelude.{ℕ, Bool, List, is_some}
use Rattle.spec_command.specs.Setting.{setting_in}

-- a word has a `=`
abbrev pub is_setting : List ℕ → Bool
is_setting word = is_some (setting_in word)
