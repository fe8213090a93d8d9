-- The headers that are left, once some were looked at.
use Rattle.std.proofs.Common.{◌≡◌, ◌∙◌, ap, sym, ℕ, suc, ◌+◌, ◌-◌, ◌*◌, ◌<◌, List, ◌∷◌, length, arith}
use Rattle.spec_elf.specs.Headers.{header_of, header_at, headers_from, header_count, table_place}
use Rattle.elf_words.specs.declared.header.Header as flat
use Rattle.elf_words.specs.Views.{header_view}
use Rattle.elf_words.specs.Left.{headers_left, refused_behind}

-- the first of them, and those behind it
pub next_header : (file : List ℕ) (number count : ℕ) → number < count → headers_from file number (count - number) ≡ header_of file number ∷ headers_from file (number + 1) (count - (number + 1))
next_header file number count lt = let one : count - number ≡ suc (count - (number + 1)) = omega arith in ap (λ n. headers_from file number n) one

-- so is what they give
pub refused_next : (file : List ℕ) (table number count total : ℕ) (h : flat.Header) → number < count → table ≡ table_place file → count ≡ header_count file
    → header_view h ≡ header_at file number (table + 64 * number)
    → refused_behind (length file) total (headers_left file number) ≡ refused_behind (length file) total (header_view h ∷ headers_left file (number + 1))
refused_next file table number count total h lt place all is =
    ap (λ n. refused_behind (length file) total (headers_from file number (n - number))) (sym all)
    ∙ ap (refused_behind (length file) total) (next_header file number count lt)
    ∙ ap (λ t. refused_behind (length file) total (header_at file number (t + 64 * number) ∷ headers_from file (number + 1) (count - (number + 1)))) (sym place)
    ∙ ap (λ x. refused_behind (length file) total (x ∷ headers_from file (number + 1) (count - (number + 1)))) (sym is)
    ∙ ap (λ n. refused_behind (length file) total (header_view h ∷ headers_from file (number + 1) (n - (number + 1)))) all
