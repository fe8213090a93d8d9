-- The limits on names: of nodes, of fields of encodesets, of parameters, and inside expressions. Names of registers and of
-- their fields have wider ones. The rules are this project's own.
use Rattle.std.specs.Prelude.{ℕ, Bool, not, ◌&&◌, ◌||◌, ◌==◌, List, length, nat_le}
use Rattle.std.specs.List.{list_all}

-- from `!` to `~`, and none of `#`, `=` and `,`
abbrev pub is_name_byte : ℕ → Bool
is_name_byte b = nat_le 33 b && nat_le b 126 && not (b == 35 || b == 61 || b == 44)

-- 1 to 128 such bytes
abbrev pub is_name : List ℕ → Bool
is_name text = nat_le 1 (length text) && nat_le (length text) 128 && list_all is_name_byte text
