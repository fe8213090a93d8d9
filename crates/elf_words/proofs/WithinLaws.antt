-- Where a file is not refused, the bytes of its chosen sections stand in it.
use Rattle.std.proofs.Common.{◌≡◌, ◌∙◌, ap, sym, Bool, true, false, nat_lt, nat_eq, not, ℕ, ◌+◌, ◌-◌, ◌*◌, ◌≤◌, ◌^◌, List, [], ◌∷◌, ◌++◌, length, All, Some, None, arith, refl, if◌then◌else◌}
use Rattle.std.proofs.lemmas.Bool.Decides.{nat_tests}
use Rattle.std.proofs.lemmas.List.Elements.{All-nil, All-cons}
use Rattle.spec_elf.specs.Headers.{Header, headers, header_count, header_size, table_place, machine, aarch64}
use Rattle.spec_elf.specs.Sections.{chosen}
use Rattle.spec_elf.specs.Refusal.{Cause, Magic, Machine, Entry, Table, SectionBytes, Address, Total, first_refusal, causes_of, causes_of_all, table_causes, has_header, total, most, refusal}
use Rattle.elf_words.specs.Left.{AreWithin}

-- where no cause holds, the first does not, and none behind it does
holds_not : (cause : Cause) (causes : List Cause) → first_refusal (cause ∷ causes) ≡ None → cause.holds ≡ false
holds_not cause causes none = go cause.holds none
  where
    go : (b : Bool) → (if b then Some cause.refusal else first_refusal causes) ≡ None → b ≡ false
    go true e = absurd cc
    go false e = refl

behind : (cause : Cause) (causes : List Cause) → first_refusal (cause ∷ causes) ≡ None → first_refusal causes ≡ None
behind cause causes none = go cause.holds none
  where
    go : (b : Bool) → (if b then Some cause.refusal else first_refusal causes) ≡ None → first_refusal causes ≡ None
    go true e = absurd cc
    go false e = e

not_above : (a b : ℕ) → nat_lt a b ≡ false → b ≤ a
not_above a b fails = grind (arith, nat_tests)

-- each of these headers has its bytes within so many
within : (bytes : ℕ) (hs : List Header) (rest : List Cause) → first_refusal (causes_of bytes hs ++ rest) ≡ None → All (λ h. h.offset + h.size ≤ bytes) hs
within bytes [] rest none = All-nil (λ h. h.offset + h.size ≤ bytes)
within bytes (h ∷ hs) rest none =
    let place : Cause = record { holds = nat_lt bytes (h.offset + h.size); refusal = SectionBytes h.number } in
    let address : Cause = record { holds = nat_lt (2 ^ 64 - 1) (h.address + h.size); refusal = Address h.number } in
    let first = holds_not place (address ∷ (causes_of bytes hs ++ rest)) none in
    let later = behind address (causes_of bytes hs ++ rest) (behind place (address ∷ (causes_of bytes hs ++ rest)) none) in
    All-cons (λ h. h.offset + h.size ≤ bytes) h hs (not_above bytes (h.offset + h.size) first) (within bytes hs rest later)

-- so it is with those of a file that is not refused, where it has any
pub chosen_within : (file : List ℕ) (count : ℕ) → count ≡ header_count file → nat_eq count 0 ≡ false → refusal file ≡ None → AreWithin file (headers file)
chosen_within file count all some none =
    let table : (if nat_eq (header_count file) 0 then [] else table_causes file) ≡ table_causes file = ap (λ n. if nat_eq n 0 then [] else table_causes file) (sym all) ∙ ap (λ b. if b then [] else table_causes file) some in
    let magic : Cause = record { holds = not (has_header file); refusal = Magic } in
    let machine_is : Cause = record { holds = not (nat_eq (machine file) aarch64); refusal = Machine } in
    let left : List Cause = if nat_eq (header_count file) 0 then [] else table_causes file in
    let these : first_refusal (table_causes file) ≡ None = ap first_refusal (sym table) ∙ behind machine_is left (behind magic (machine_is ∷ left) none) in
    let entry : Cause = record { holds = not (nat_eq (header_size file) 64); refusal = Entry } in
    let place : Cause = record { holds = nat_lt (length file) (table_place file + 64 * header_count file); refusal = Table } in
    let sections = causes_of_all (length file) (chosen (headers file)) in
    within (length file) (chosen (headers file)) (record { holds = nat_lt most (total (chosen (headers file))); refusal = Total } ∷ []) (behind place sections (behind entry (place ∷ sections) these))
