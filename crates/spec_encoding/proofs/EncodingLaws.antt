-- What is answered along a path is the one word that has the values of the fields and the rest, and which the path does not exclude.
use Rattle.std.specs.Prelude.{bytes_eq, Any, AllPairs, is_none}
use Rattle.std.proofs.Common.{◌≡◌, ◌≢◌, ◌∙◌, sym, ap, refl, subst, ℕ, true, false, not, List, [], ◌∷◌, map, Some, arith}
use Rattle.std.specs.List.{list_any}
use Rattle.std.proofs.lemmas.Bool.{and_parts, and_from, false≢true, false_from_ne_true, not-true, not_from_false}
use Rattle.std.proofs.lemmas.Slice.Eq.{bytes_eq-Decides}
use Rattle.std.proofs.lemmas.List.Kept.{AllPairs-cons}
use Rattle.spec_bits.specs.Bits.{slice}
use Rattle.spec_expressions.specs.Scope.{Configuration}
use Rattle.spec_instructions.specs.Tree.{Own}
use Rattle.spec_instructions.specs.Fields.{Field}
use Rattle.spec_instructions.specs.Aliases.{alias_path}
use Rattle.spec_decode.proofs.PreferredLaws.{preferred_has_leaf_verdict}
use Rattle.spec_encoding.specs.Parts.{Part}
use Rattle.spec_encoding.specs.Named.{FieldOf, field_for, is_unknown, is_paired, part_from, parts}
use Rattle.spec_encoding.specs.PathLayout.{shown, layout, rest_of, excluded_at}
use Rattle.spec_encoding.specs.Encoding.{named_field, IsFormed, IsValueOf, Encodes, EncodingIsExact, EncodesOneWord, OwnPairsEncode, PreferredEncodes, own_pairs}
use Rattle.spec_encoding.proofs.Members.{In, any-In, In-any, none-any, any-none, All-In, All-each, In-map, map-In, find-In, find-passes, not_none, Any-In, In-Any, AllPairs-head, AllPairs-tail}
use Rattle.spec_encoding.proofs.NamedLaws.{all_distinct, HasPairs, field-found, encoded-from, encoded-to, at_most_one, own_encodes}
use Rattle.spec_encoding.proofs.ExclusionLaws.{none-verdict, verdict-none}
use Rattle.spec_encoding.proofs.PathLaws.{path-known}

abbrev Apart : List ℕ × ℕ → List ℕ × ℕ → Type 0
Apart first second = first.0 ≢ second.0

-- ---- distinct names

distinct-pairs : (pairs : List (List ℕ × ℕ)) → all_distinct bytes_eq bytes_eq-Decides pairs ≡ true → AllPairs Apart pairs
distinct-pairs [] h = λ i j d lt below. absurd (omega arith)
distinct-pairs (p ∷ ps) h =
    let parts' = and_parts (not (list_any (λ q. bytes_eq p.0 q.0) ps)) (all_distinct bytes_eq bytes_eq-Decides ps) h in
    AllPairs-cons Apart p ps
    (All-each (Apart p) ps (λ q i e. false≢true (sym (any-none (λ q. bytes_eq p.0 q.0) ps q (not-true _ parts'.0) i) ∙ (bytes_eq-Decides p.0 q.0).1 e)))
    (distinct-pairs ps parts'.1)

pairs-distinct : (pairs : List (List ℕ × ℕ)) → AllPairs Apart pairs → all_distinct bytes_eq bytes_eq-Decides pairs ≡ true
pairs-distinct [] h = refl
pairs-distinct (p ∷ ps) h =
    and_from (not (list_any (λ q. bytes_eq p.0 q.0) ps)) (all_distinct bytes_eq bytes_eq-Decides ps)
    (not_from_false _ (none-any (λ q. bytes_eq p.0 q.0) ps (λ q i. false_from_ne_true _ (λ e. AllPairs-head Apart p ps h q i ((bytes_eq-Decides p.0 q.0).0 e)))))
    (pairs-distinct ps (AllPairs-tail Apart p ps h))

-- ---- values of fields

module _ (path : List Own) (g : Configuration) (pairs : List (List ℕ × ℕ)) (rest w : ℕ) where
  abbrev visible_fields : List (FieldOf (List ℕ))
  visible_fields = map named_field (shown path)

  abbrev Pairs : Type 0
  Pairs = HasPairs bytes_eq bytes_eq-Decides (layout path) (excluded_at path g) visible_fields pairs rest w

  abbrev part : List ℕ × ℕ → Part
  part pair = part_from bytes_eq (field_for bytes_eq visible_fields pair.0) pair.1

  abbrev HasSlice : Part → Type 0
  HasSlice q = slice w q.start q.width ≡ q.value

  value-of : (h : Pairs) (pair : List ℕ × ℕ) → In pair pairs → Any (IsValueOf w pair) (shown path)
  value-of h pair i =
      let found = not_none (field_for bytes_eq visible_fields pair.0) (All-In (λ p. is_unknown bytes_eq visible_fields p ≡ false) pairs pair h.known i) in
      let at = map-In named_field (shown path) found.0 (find-In (λ f. bytes_eq f.name pair.0) visible_fields found.0 found.1) in
      let name = (bytes_eq-Decides found.0.name pair.0).0 (find-passes (λ f. bytes_eq f.name pair.0) visible_fields found.0 found.1) in
      let cut = subst (λ o. HasSlice (part_from bytes_eq o pair.1)) found.1 (All-In HasSlice (parts bytes_eq visible_fields pairs) (part pair) h.has.slices (In-map part pairs pair i)) in
      let is : IsValueOf w pair at.0 = record { name = sym (ap (λ f. f.name) at.2) ∙ name; value = subst (λ f. slice w f.start f.width ≡ pair.1) at.2 cut } in
      In-Any (IsValueOf w pair) (shown path) at.0 at.1 is

  paired-by : (h : Pairs) (field : Field) → In field (shown path) → Any (λ pair. pair.0 ≡ field.name) pairs
  paired-by h field i =
      let by = any-In (λ pair. bytes_eq pair.0 field.name) pairs (All-In (λ f. is_paired bytes_eq pairs f.name ≡ true) visible_fields (named_field field) h.whole (In-map named_field (shown path) field i)) in
      In-Any (λ pair. pair.0 ≡ field.name) pairs by.0 by.1 ((bytes_eq-Decides by.0.0 field.name).0 by.2)

  encodes-from : Pairs → Encodes path g pairs rest w
  encodes-from h = record {
    is_word = h.has.is_word;
    distinct = distinct-pairs pairs h.distinct;
    values = All-each (λ pair. Any (IsValueOf w pair) (shown path)) pairs (value-of h);
    whole = All-each (λ field. Any (λ pair. pair.0 ≡ field.name) pairs) (shown path) (paired-by h);
    is_rest = h.has.is_rest;
    verdict_is = none-verdict path g w h.has.holds;
  }

  module _ (formed : IsFormed path) (h : Encodes path g pairs rest w) where
    field-of : (pair : List ℕ × ℕ) → In pair pairs → (field : Field) × (field_for bytes_eq visible_fields pair.0 ≡ Some (named_field field)) × (slice w field.start field.width ≡ pair.1)
    field-of pair i =
        let by = Any-In (IsValueOf w pair) (shown path) (All-In (λ pair. Any (IsValueOf w pair) (shown path)) pairs pair h.values i) in
        (by.0, field-found bytes_eq bytes_eq-Decides visible_fields (named_field by.0) pair.0 (path-known path g formed).distinct (In-map named_field (shown path) by.0 by.1) by.2.name, by.2.value)

    has-slice : (q : Part) → In q (parts bytes_eq visible_fields pairs) → HasSlice q
    has-slice q i =
        let from = map-In part pairs q i in
        let field = field-of from.0 from.1 in
        subst HasSlice (sym (from.2 ∙ ap (λ o. part_from bytes_eq o from.0.1) field.1)) field.2

    pairs-from : Pairs
    pairs-from = record {
      distinct = pairs-distinct pairs h.distinct;
      known = All-each (λ p. is_unknown bytes_eq visible_fields p ≡ false) pairs (λ p i. ap is_none (field-of p i).1);
      whole = All-each (λ f. is_paired bytes_eq pairs f.name ≡ true) visible_fields (λ f i. is-paired f (map-In named_field (shown path) f i));
      has = record {
        is_word = h.is_word;
        slices = All-each HasSlice (parts bytes_eq visible_fields pairs) has-slice;
        is_rest = h.is_rest;
        holds = verdict-none path g w h.verdict_is;
      };
    }
      where
        is-paired : (f : FieldOf (List ℕ)) → (field : Field) × In field (shown path) × (f ≡ named_field field) → is_paired bytes_eq pairs f.name ≡ true
        is-paired f at =
            let by = Any-In (λ pair. pair.0 ≡ at.0.name) pairs (All-In (λ field. Any (λ pair. pair.0 ≡ field.name) pairs) (shown path) at.0 h.whole at.1) in
            In-any (λ pair. bytes_eq pair.0 f.name) pairs by.0 by.1 ((bytes_eq-Decides by.0.0 f.name).1 (by.2 ∙ sym (ap (λ f. f.name) at.2)))

-- ---- the laws

pub encoding_is_exact : EncodingIsExact
encoding_is_exact path g pairs rest w formed small = (
  λ h. encodes-from path g pairs rest w (encoded-to bytes_eq bytes_eq-Decides (layout path) (excluded_at path g) (map named_field (shown path)) pairs rest w (path-known path g formed) small h),
  λ h. encoded-from bytes_eq bytes_eq-Decides (layout path) (excluded_at path g) (map named_field (shown path)) pairs rest w (path-known path g formed) (pairs-from path g pairs rest w formed h),
)

pub encodes_one_word : EncodesOneWord
encodes_one_word path g pairs rest w u formed left right =
    at_most_one bytes_eq bytes_eq-Decides (layout path) (excluded_at path g) (map named_field (shown path)) pairs rest w u (path-known path g formed) (pairs-from path g pairs rest w formed left) (pairs-from path g pairs rest u formed right)

abbrev named_value : ℕ → FieldOf (List ℕ) → List ℕ × ℕ
named_value w f = (f.name, slice w f.start f.width)

abbrev field_value : ℕ → Field → List ℕ × ℕ
field_value w f = (f.name, slice w f.start f.width)

named-own : (fs : List Field) (w : ℕ) → map (named_value w) (map named_field fs) ≡ map (field_value w) fs
named-own [] w = refl
named-own (f ∷ fs) w = ap (λ ps. (f.name, slice w f.start f.width) ∷ ps) (named-own fs w)

pub own_pairs_encode : OwnPairsEncode
own_pairs_encode path g w formed small verdict =
    encodes-from path g (own_pairs path w) (rest_of path w) w
    (subst (λ ps. HasPairs bytes_eq bytes_eq-Decides (layout path) (excluded_at path g) (map named_field (shown path)) ps (rest_of path w) w) (named-own (shown path) w)
    (own_encodes bytes_eq bytes_eq-Decides (layout path) (excluded_at path g) (map named_field (shown path)) w (path-known path g formed) small (verdict-none path g w verdict)))

pub preferred_encodes : PreferredEncodes
preferred_encodes aliases k g w i a is at formed small above =
    own_pairs_encode (alias_path a) g w formed small (λ e. above (sym (preferred_has_leaf_verdict aliases k g w i a is at) ∙ e))
