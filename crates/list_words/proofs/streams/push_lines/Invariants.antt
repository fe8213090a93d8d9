use Rattle.std.proofs.Common.{◌≡◌, ◌+◌, ◌++◌, length}
use Rattle.spec_lines.specs.Words.{words_in}
use Rattle.spec_lines.specs.Streams.{word_lines}
use Rattle.list_words.specs.Listers.{machine, form}
use Rattle.list_words.proofs.streams.push_lines.Given as goal

-- with the lines of what is left, those of the whole piece are there
abbrev pub invariant-loop-rest : goal.invariant-loop-rest
invariant-loop-rest l = record {
  told : l.out.items ++ word_lines (form l.lister) (machine l.lister) l.at (words_in l.rest) ≡ l.fn.out.items ++ word_lines (form l.lister) (machine l.lister) l.offset (words_in l.piece);
  place : l.at + length l.rest ≡ l.offset + length l.piece;
}

abbrev pub decreases-loop-rest : goal.decreases-loop-rest
decreases-loop-rest l = length l.rest
