-- Why a line says no word.
use Rattle.std.specs.Prelude.{ℕ, List, Result, Err}
use Rattle.spec_encoding.specs.Refusal.{Refusal}
use Rattle.spec_lines.specs.Way.{Way}

pub data LineWhy : Type 0 where
  -- the line is too long
  Long : LineWhy
  -- it does not begin with a word that it may begin with, or has no token
  Head : LineWhy
  -- behind `leaf` stands no label of a leaf, behind `alias` none of an alias, or nothing stands there
  Label : LineWhy
  -- behind `word`, what should be a number is none or is missing, or a third token follows; behind a label, what should be a
  -- field with its number is none, or is a second `rest=`
  Pair : LineWhy
  -- there are too many fields
  Many : LineWhy
  -- along the path to a leaf or an alias, the fields and the rest are encoded to no word
  Encode : Way → Refusal (List ℕ) → LineWhy

-- the place of the byte at which a line is refused, from 0, and why
pub record LineFault : Type 0 where
  pub at : ℕ
  pub why : LineWhy

abbrev pub refused : {A : Type 0} → ℕ → LineWhy → Result A LineFault
refused at why = Err (record { at = at; why = why })
