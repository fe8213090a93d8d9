-- The answers of the encoder.
use Rattle.std.specs.Prelude.{◌≡◌, ℕ, List, Result, Ok, Err}
use Rattle.spec_encoding.specs.Refusal.{Refusal}
use Rattle.spec_lines.specs.Way.{Way}
use Rattle.insn_tree.specs.Trees.{TreeParts}
use Rattle.insn_encode.specs.declared.fault.EncodeFault.{EncodeFault}
use Rattle.insn_encode.specs.declared.fault.EncodeFault.TheVariants as fault
use Rattle.list_words.specs.Faults.{IsRefusalAt}

-- the word, or a refusal of a leaf or an alias
pub record IsRefusedAt (names : List (List ℕ)) (tree : TreeParts) (way : Way) (code : EncodeFault) (told : Result ℕ (Refusal (List ℕ))) : Type 0 where
  pub refusal : Refusal (List ℕ)
  pub is : told ≡ Err refusal
  pub refusal_is : IsRefusalAt names tree code way refusal

abbrev pub Encodes : List (List ℕ) → TreeParts → Way → Result ℕ EncodeFault → Result ℕ (Refusal (List ℕ)) → Type 0
Encodes names tree way (Ok w) told = told ≡ Ok w
Encodes names tree way (Err code) told = IsRefusedAt names tree way code told

-- the unknown field of an answer, or else this one
abbrev pub or_next : Result ℕ EncodeFault → ℕ → EncodeFault
or_next (Err (fault.UnknownField i)) next = fault.UnknownField i
or_next answer next = fault.UnknownField next
