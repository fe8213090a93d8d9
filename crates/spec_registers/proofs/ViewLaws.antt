-- The pieces of a fieldset recombine to the value.
use Rattle.std.proofs.Common.{◌≡◌, ◌∙◌, sym, ap, refl, ℕ, ◌-◌, List, [], ◌∷◌, ◌++◌, map, flat_map, Bool, true, false, not, arith, Option, Some, None}
use Rattle.std.specs.Prelude.{◌||◌}
use Rattle.std.specs.List.{list_any, AllByRecursion}
use Rattle.std.proofs.lemmas.List.Folds.{list_any-append}
use Rattle.spec_bits.specs.Bits.{bit_of}
use Rattle.spec_bits.proofs.BitLaws.{bit_of-slice}
use Rattle.spec_instructions.specs.Encodeset.{Range}
use Rattle.spec_registers.specs.Registers.{FieldOf}
use Rattle.spec_registers.specs.Gaps.{covers, is_covered, gaps}
use Rattle.spec_registers.specs.View.{PieceOf, piece, field_pieces, ranges_of, pieces, Recombine}
use Rattle.spec_registers.proofs.GapLaws.{covers-from, gaps_are_gaps}

module _ {N : Type 0} (value : ℕ) where
  abbrev has : ℕ → PieceOf N → Bool
  has i p = covers p.start p.width i

  abbrev Agrees : PieceOf N → Type 0
  Agrees p = (i : ℕ) → covers p.start p.width i ≡ true → bit_of p.value (i - p.start) ≡ bit_of value i

  -- ---- each piece agrees

  piece_agrees : (name : Option N) (r : Range) → Agrees (piece value name r)
  piece_agrees name r i h =
      let at = covers-from r.start r.width i h in
      bit_of-slice value r.start r.width (i - r.start) (omega (arith, at.0, at.1)) ∙ ap (bit_of value) (omega (arith, at.0))

  all_agree : (name : Option N) (rs : List Range) → AllByRecursion Agrees (map (piece value name) rs)
  all_agree name [] = tt
  all_agree name (r ∷ rs) = (piece_agrees name r, all_agree name rs)

  both_agree : (ps qs : List (PieceOf N)) → AllByRecursion Agrees ps → AllByRecursion Agrees qs → AllByRecursion Agrees (ps ++ qs)
  both_agree [] qs h k = k
  both_agree (p ∷ ps) qs h k = (h.0, both_agree ps qs h.1 k)

  fields_agree : (fields : List (FieldOf N)) → AllByRecursion Agrees (flat_map (field_pieces value) fields)
  fields_agree [] = tt
  fields_agree (f ∷ fields) = both_agree (field_pieces value f) _ (all_agree (Some f.name) f.ranges) (fields_agree fields)

  -- ---- each bit stands in a piece

  ranges_have : (i : ℕ) (name : Option N) (rs : List Range) → list_any (has i) (map (piece value name) rs) ≡ is_covered rs i
  ranges_have i name [] = refl
  ranges_have i name (r ∷ rs) = ap (λ b. covers r.start r.width i || b) (ranges_have i name rs)

  fields_have : (i : ℕ) (fields : List (FieldOf N)) → list_any (has i) (flat_map (field_pieces value) fields) ≡ is_covered (ranges_of fields) i
  fields_have i [] = refl
  fields_have i (f ∷ fields) =
      list_any-append (has i) (field_pieces value f) (flat_map (field_pieces value) fields)
      ∙ ap (λ b. b || list_any (has i) (flat_map (field_pieces value) fields)) (ranges_have i (Some f.name) f.ranges)
      ∙ ap (λ b. is_covered f.ranges i || b) (fields_have i fields)
      ∙ sym (list_any-append (λ r. covers r.start r.width i) f.ranges (ranges_of fields))

  pub pieces_recombine : (bits : ℕ) (fields : List (FieldOf N)) → Recombine bits value (pieces bits value fields)
  pieces_recombine bits fields = record {
    whole = λ i below.
        list_any-append (has i) (flat_map (field_pieces value) fields) (map (piece value None) (gaps bits (is_covered (ranges_of fields))))
        ∙ ap (λ b. b || list_any (has i) (map (piece value None) (gaps bits (is_covered (ranges_of fields))))) (fields_have i fields)
        ∙ ap (λ b. is_covered (ranges_of fields) i || b) (ranges_have i None (gaps bits (is_covered (ranges_of fields))) ∙ (gaps_are_gaps bits (is_covered (ranges_of fields))).exact i below)
        ∙ either (is_covered (ranges_of fields) i);
    agree = both_agree (flat_map (field_pieces value) fields) _ (fields_agree fields) (all_agree None (gaps bits (is_covered (ranges_of fields))));
  }
    where
      either : (b : Bool) → (b || not b) ≡ true
      either true = refl
      either false = refl
