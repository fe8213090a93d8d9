-- The limits on names of registers and of their fields, and on the names under which registers are accessed. They are wider
-- than those on other names. The rule is this project's own.
use Rattle.std.specs.Prelude.{ℕ, Bool, ◌&&◌, List, length, nat_le}
use Rattle.std.specs.List.{list_all}

-- from the space to `~`
abbrev pub is_wide_name_byte : ℕ → Bool
is_wide_name_byte b = nat_le 32 b && nat_le b 126

-- 1 to 128 such bytes
abbrev pub is_wide_name : List ℕ → Bool
is_wide_name text = nat_le 1 (length text) && nat_le (length text) 128 && list_all is_wide_name_byte text
