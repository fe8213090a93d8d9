-- The limits on registers and what they hold.
use Rattle.std.specs.Prelude.{ℕ}

-- the most registers of a document, fieldsets of one register, and accessor entries of a document
abbrev pub register_limit : ℕ
register_limit = 65536

abbrev pub fieldset_limit : ℕ
fieldset_limit = 65536

abbrev pub entry_limit : ℕ
entry_limit = 65536

-- the widest fieldset
abbrev pub width_limit : ℕ
width_limit = 128
