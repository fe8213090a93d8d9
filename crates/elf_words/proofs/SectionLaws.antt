-- The sections that are left, once some headers were looked at.
use Rattle.std.proofs.Common.{◌≡◌, ◌∙◌, ap, sym, subst, ℕ, ◌+◌, ◌-◌, ◌*◌, ◌≤◌, ◌<◌, Bool, true, false, List, [], ◌∷◌, length, map, All, arith, if◌then◌else◌}
use Rattle.std.proofs.lemmas.List.Elements.{All-head, All-tail}
use Rattle.spec_elf.specs.Headers.{Header, header_at, headers_from, header_count, table_place}
use Rattle.spec_elf.specs.Sections.{chosen, is_chosen, section_of}
use Rattle.elf_words.specs.declared.header.Header as flat
use Rattle.elf_words.specs.Views.{header_view}
use Rattle.elf_words.specs.Left.{headers_left, sections_left, AreWithin}
use Rattle.elf_words.proofs.HeaderLaws.{next_header}

-- the header that is next, as it was read
record IsNext (file : List ℕ) (table number count : ℕ) (h : flat.Header) : Type 0 where
  pub more : number < count
  pub all : count ≡ header_count file
  pub place : table ≡ table_place file
  pub is : header_view h ≡ header_at file number (table + 64 * number)

first_left : (file : List ℕ) (table number count : ℕ) (h : flat.Header) → IsNext file table number count h → headers_left file number ≡ header_view h ∷ headers_left file (number + 1)
first_left file table number count h next =
    ap (λ n. headers_from file number (n - number)) (sym next.all)
    ∙ next_header file number count next.more
    ∙ ap (λ t. header_at file number (t + 64 * number) ∷ headers_from file (number + 1) (count - (number + 1))) (sym next.place)
    ∙ ap (λ x. x ∷ headers_from file (number + 1) (count - (number + 1))) (sym next.is)
    ∙ ap (λ n. header_view h ∷ headers_from file (number + 1) (n - (number + 1))) next.all

-- where the first header is of a chosen section, and where it is of none
pub section_next : (file : List ℕ) (table number count : ℕ) (h : flat.Header) → number < count → count ≡ header_count file → table ≡ table_place file
    → header_view h ≡ header_at file number (table + 64 * number) → is_chosen (header_view h) ≡ true
    → sections_left file number ≡ section_of file (header_view h) ∷ sections_left file (number + 1)
section_next file table number count h more all place is chosen_is =
    ap (λ hs. map (section_of file) (chosen hs)) (first_left file table number count h (record { more = more; all = all; place = place; is = is }))
    ∙ ap (λ b. map (section_of file) (if b then header_view h ∷ chosen (headers_left file (number + 1)) else chosen (headers_left file (number + 1)))) chosen_is

pub section_passed : (file : List ℕ) (table number count : ℕ) (h : flat.Header) → number < count → count ≡ header_count file → table ≡ table_place file
    → header_view h ≡ header_at file number (table + 64 * number) → is_chosen (header_view h) ≡ false
    → sections_left file number ≡ sections_left file (number + 1)
section_passed file table number count h more all place is passed_is =
    ap (λ hs. map (section_of file) (chosen hs)) (first_left file table number count h (record { more = more; all = all; place = place; is = is }))
    ∙ ap (λ b. map (section_of file) (if b then header_view h ∷ chosen (headers_left file (number + 1)) else chosen (headers_left file (number + 1)))) passed_is

abbrev Fits : List ℕ → Header → Type 0
Fits file h = h.offset + h.size ≤ length file

-- the bytes of the chosen section stand in the file, and so do those of the sections behind it
pub section_fits : (file : List ℕ) (table number count : ℕ) (h : flat.Header) → number < count → count ≡ header_count file → table ≡ table_place file
    → header_view h ≡ header_at file number (table + 64 * number) → is_chosen (header_view h) ≡ true
    → AreWithin file (headers_left file number) → h.offset + h.size ≤ length file
section_fits file table number count h more all place is chosen_is within =
    let hs = ap chosen (first_left file table number count h (record { more = more; all = all; place = place; is = is }))
    ∙ ap (λ b. if b then header_view h ∷ chosen (headers_left file (number + 1)) else chosen (headers_left file (number + 1))) chosen_is in
    All-head (Fits file) (header_view h) (chosen (headers_left file (number + 1))) (subst (All (Fits file)) hs within)

pub later_fit : (file : List ℕ) (table number count : ℕ) (h : flat.Header) → number < count → count ≡ header_count file → table ≡ table_place file
    → header_view h ≡ header_at file number (table + 64 * number)
    → AreWithin file (headers_left file number) → AreWithin file (headers_left file (number + 1))
later_fit file table number count h more all place is within =
    go (is_chosen (header_view h)) (subst (λ hs. All (Fits file) (chosen hs)) (first_left file table number count h (record { more = more; all = all; place = place; is = is })) within)
  where
    go : (b : Bool) → All (Fits file) (if b then header_view h ∷ chosen (headers_left file (number + 1)) else chosen (headers_left file (number + 1))) → All (Fits file) (chosen (headers_left file (number + 1)))
    go true all = All-tail (Fits file) (header_view h) (chosen (headers_left file (number + 1))) all
    go false all = all

-- behind the last header there is none
pub none_left : (file : List ℕ) (number count : ℕ) → count ≡ header_count file → count ≤ number → sections_left file number ≡ []
none_left file number count all le =
    let zero : count - number ≡ 0 = omega arith in
    ap (λ n. map (section_of file) (chosen (headers_from file number (n - number)))) (sym all) ∙ ap (λ n. map (section_of file) (chosen (headers_from file number n))) zero
