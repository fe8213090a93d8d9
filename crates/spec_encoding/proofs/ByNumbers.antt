-- What is encoded by numbers in place of names, over an account of the bits that agrees with a path's, is the encoding along that path.
use Rattle.std.specs.Prelude.{bytes_eq, filter, is_none, option_map}
use Rattle.std.proofs.Common.{◌≡◌, ◌∙◌, sym, ap, refl, ℕ, zero, suc, ◌+◌, ◌<◌, ◌≤◌, ◌==◌, Bool, true, false, ◌||◌, cond, List, [], ◌∷◌, map, All, Option, arith}
use Rattle.std.specs.List.{list_any, range_with_len}
use Rattle.std.proofs.lemmas.List.Elements.{All-head, All-tail, All-filter}
use Rattle.spec_expressions.specs.Scope.{Configuration}
use Rattle.spec_instructions.specs.Tree.{Own}
use Rattle.spec_instructions.specs.Fields.{fields}
use Rattle.spec_encoding.specs.Layout.{Layout}
use Rattle.spec_encoding.specs.Refusal.{with_node}
use Rattle.spec_encoding.specs.Named.{FieldOf, encoded}
use Rattle.spec_encoding.specs.PathLayout.{fixed_at, is_open, shown, excluded_at, layout}
use Rattle.spec_encoding.specs.Encoding.{named_field, encoding}
use Rattle.spec_encoding.proofs.SameLayouts.{SameLayout, encoded-same}
use Rattle.spec_encoding.proofs.Renamed.{told, encoded-under, encoded-nodes}
use Rattle.spec_encoding.proofs.PathLaws.{shown-named, field_shown}

pub any-range-same : (p q : ℕ → Bool) (a n : ℕ) → ((k : ℕ) → a ≤ k → k < a + n → p k ≡ q k) → list_any p (range_with_len a n) ≡ list_any q (range_with_len a n)
any-range-same p q a zero same = refl
any-range-same p q a (suc n) same =
    ap (λ b. b || list_any p (range_with_len (a + 1) n)) (same a (omega arith) (omega arith))
    ∙ ap (λ b. q a || b) (any-range-same p q (a + 1) n (λ k from below. same k (omega arith) (omega arith)))

-- a field is shown by the bits that are fixed
abbrev pub open_by : {N : Type 0} → (ℕ → Option ℕ) → FieldOf N → Bool
open_by fixed f = is_open fixed f.start f.width

-- a field by the text of its name
abbrev pub under : (ℕ → List ℕ) → FieldOf ℕ → FieldOf (List ℕ)
under text f = record { name = text f.name; start = f.start; width = f.width }

module _ (text : ℕ → List ℕ) (path : List Own) (fixed : ℕ → Option ℕ) (agree : (i : ℕ) → i < 32 → fixed i ≡ fixed_at path i) where
  open-same : (f : FieldOf ℕ) → f.start + f.width ≤ 32 → open_by fixed f ≡ field_shown path (under text f)
  open-same f within = any-range-same (λ k. is_none (fixed (f.start + k))) (λ k. is_none (fixed_at path (f.start + k))) 0 f.width (λ k from below. ap is_none (agree (f.start + k) (omega arith)))

  map_cond : (b : Bool) (f : FieldOf ℕ) (fs : List (FieldOf ℕ)) → map (under text) (cond b (f ∷ fs) fs) ≡ cond b (under text f ∷ map (under text) fs) (map (under text) fs)
  map_cond true f fs = refl
  map_cond false f fs = refl

  filter-under : (fs : List (FieldOf ℕ)) → All (λ f. f.start + f.width ≤ 32) fs → map (under text) (filter (open_by fixed) fs) ≡ filter (field_shown path) (map (under text) fs)
  filter-under [] all = refl
  filter-under (f ∷ fs) all =
      map_cond (open_by fixed f) f (filter (open_by fixed) fs)
      ∙ ap (λ b. cond b (under text f ∷ map (under text) (filter (open_by fixed) fs)) (map (under text) (filter (open_by fixed) fs))) (open-same f (All-head (λ f. f.start + f.width ≤ 32) f fs all))
      ∙ ap (λ gs. cond (field_shown path (under text f)) (under text f ∷ gs) gs) (filter-under fs (All-tail (λ f. f.start + f.width ≤ 32) f fs all))

  -- the shown fields by numbers of names are those of the path
  pub shown-under : (fs : List (FieldOf ℕ)) → All (λ f. f.start + f.width ≤ 32) fs → map (under text) fs ≡ map named_field (fields path) → map (under text) (filter (open_by fixed) fs) ≡ map named_field (shown path)
  shown-under fs all same = filter-under fs all ∙ ap (filter (field_shown path)) same ∙ shown-named path (fields path)

module _ (text : ℕ → List ℕ) (Held : ℕ → Type 0) (apart : (a b : ℕ) → Held a → Held b → bytes_eq (text a) (text b) ≡ (a == b)) where
  -- nodes are told by other numbers than those of their places along the path
  pub encoding-by_numbers : (path : List Own) (g : Configuration) (number : ℕ → ℕ) (l : Layout) (excluded : ℕ → Option ℕ) (fs : List (FieldOf ℕ)) (pairs : List (ℕ × ℕ)) (rest : ℕ)
      → SameLayout l (layout path) → ((w : ℕ) → excluded w ≡ option_map number (excluded_at path g w)) → map (under text) fs ≡ map named_field (fields path)
      → All (λ f. f.start + f.width ≤ 32) fs → All (λ f. Held f.name) fs → All (λ p. Held p.0) pairs
      → told text (encoded (λ a b. a == b) l excluded (filter (open_by l.fixed) fs) pairs rest) ≡ with_node number (encoding path g (map (λ p. (text p.0, p.1)) pairs) rest)
  encoding-by_numbers path g number l excluded fs pairs rest agree nodes same within held_fields held =
      sym (encoded-under (λ a b. a == b) bytes_eq text Held apart l excluded (filter (open_by l.fixed) fs) pairs rest (All-filter (open_by l.fixed) (λ f. Held f.name) fs held_fields) held)
      ∙ ap (λ gs. encoded bytes_eq l excluded gs (map (λ p. (text p.0, p.1)) pairs) rest) (shown-under text path l.fixed agree.fixed fs within same)
      ∙ encoded-same l (layout path) agree excluded (λ w. option_map number (excluded_at path g w)) nodes bytes_eq (map named_field (shown path)) (map (λ p. (text p.0, p.1)) pairs) rest
      ∙ encoded-nodes bytes_eq number (layout path) (excluded_at path g) (map named_field (shown path)) (map (λ p. (text p.0, p.1)) pairs) rest
