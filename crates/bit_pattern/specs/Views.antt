-- What this crate's types stand for.
use Rattle.std.specs.Prelude.{List}
use Rattle.spec_bits.specs.Pattern.{Digit}
use Rattle.spec_bits.specs.PatternText as text
use Rattle.spec_bits.specs.PatternText.{PatternRefusal}
use Rattle.bit_pattern.specs.Digits.{digits_below}
use Rattle.bit_pattern.specs.declared.pattern.Pattern.{Pattern}
use Rattle.bit_pattern.specs.declared.fault.PatternFault.{PatternFault}
use Rattle.bit_pattern.specs.declared.fault.PatternFault.TheVariants.{Empty, BadChar, TooWide, Unquoted}

-- a pattern's digits
abbrev pub digits_of : Pattern → List Digit
digits_of p = digits_below p.mask p.value p.width

-- why a text is no pattern
abbrev pub refusal_of : PatternFault → PatternRefusal
refusal_of Empty = text.Empty
refusal_of (BadChar at) = text.BadChar at
refusal_of TooWide = text.TooWide
refusal_of (Unquoted at) = text.Unquoted at
