-- Names under other names, as numbers for texts: what is encoded stays the same, and a refusal is told by the other name.
use Rattle.std.specs.Prelude.{Result, find, is_none, option_map}
use Rattle.std.proofs.Common.{◌≡◌, ◌∙◌, ap, refl, ℕ, ◌+◌, Bool, true, false, not, ◌||◌, cond, List, [], ◌∷◌, ◌++◌, map, All, Option, Some, None, Ok, Err}
use Rattle.std.specs.List.{position_from}
use Rattle.std.proofs.lemmas.List.Elements.{All-head, All-tail, All-append, All-cons, All-nil}
use Rattle.spec_encoding.specs.Parts.{Part, is_too_wide, is_clash, highest}
use Rattle.spec_encoding.specs.Layout.{Layout, is_misfixed, is_stray}
use Rattle.spec_encoding.specs.Refusal.{Refusal, UnknownField, DoubledField, MissingField, TooWide, Clash, FixedBit, RestBit, Excluded, unless, renumbered, with_node}
use Rattle.spec_encoding.specs.Placed.{made, placed}
use Rattle.spec_encoding.specs.Named.{FieldOf, field_for, is_unknown, is_paired, doubled_from, missing, part_from, parts, encoded}

-- a refusal with its field under another name
abbrev pub renamed : {N M : Type 0} → (N → M) → Refusal N → Refusal M
renamed h (UnknownField i) = UnknownField i
renamed h (DoubledField i) = DoubledField i
renamed h (MissingField name) = MissingField (h name)
renamed h (TooWide i) = TooWide i
renamed h (Clash bit) = Clash bit
renamed h (FixedBit bit) = FixedBit bit
renamed h (RestBit bit) = RestBit bit
renamed h (Excluded node) = Excluded node

abbrev pub told : {N M : Type 0} → (N → M) → Result ℕ (Refusal N) → Result ℕ (Refusal M)
told h (Ok w) = Ok w
told h (Err r) = Err (renamed h r)

module _ {N M : Type 0} (same : N → N → Bool) (other : M → M → Bool) (h : N → M) (Held : N → Type 0) (agrees : (a b : N) → Held a → Held b → other (h a) (h b) ≡ same a b) where
  abbrev pub field_under : FieldOf N → FieldOf M
  field_under f = record { name = h f.name; start = f.start; width = f.width }

  abbrev pub pair_under : N × ℕ → M × ℕ
  pair_under p = (h p.0, p.1)

  abbrev FieldHeld : FieldOf N → Type 0
  FieldHeld f = Held f.name

  abbrev PairHeld : N × ℕ → Type 0
  PairHeld p = Held p.0

  mapped_cond : (b : Bool) (f : FieldOf N) (o : Option (FieldOf N)) → cond b (Some (field_under f)) (option_map field_under o) ≡ option_map field_under (cond b (Some f) o)
  mapped_cond true f o = refl
  mapped_cond false f o = refl

  field-under : (shown : List (FieldOf N)) (n : N) → All FieldHeld shown → Held n → field_for other (map field_under shown) (h n) ≡ option_map field_under (field_for same shown n)
  field-under [] n all held = refl
  field-under (f ∷ fs) n all held =
      ap (λ b. cond b (Some (field_under f)) (field_for other (map field_under fs) (h n))) (agrees f.name n (All-head FieldHeld f fs all) held)
      ∙ ap (λ o. cond (same f.name n) (Some (field_under f)) o) (field-under fs n (All-tail FieldHeld f fs all) held)
      ∙ mapped_cond (same f.name n) f (field_for same fs n)

  none_mapped : (o : Option (FieldOf N)) → is_none (option_map field_under o) ≡ is_none o
  none_mapped None = refl
  none_mapped (Some f) = refl

  unknown-under : (shown : List (FieldOf N)) (k : ℕ) (pairs : List (N × ℕ)) → All FieldHeld shown → All PairHeld pairs → position_from (is_unknown other (map field_under shown)) k (map pair_under pairs) ≡ position_from (is_unknown same shown) k pairs
  unknown-under shown k [] all held = refl
  unknown-under shown k (p ∷ ps) all held =
      ap (λ b. cond b (Some k) (position_from (is_unknown other (map field_under shown)) (k + 1) (map pair_under ps))) (ap is_none (field-under shown p.0 all (All-head PairHeld p ps held)) ∙ none_mapped (field_for same shown p.0))
      ∙ ap (λ o. cond (is_unknown same shown p) (Some k) o) (unknown-under shown (k + 1) ps all (All-tail PairHeld p ps held))

  paired-under : (pairs : List (N × ℕ)) (n : N) → All PairHeld pairs → Held n → is_paired other (map pair_under pairs) (h n) ≡ is_paired same pairs n
  paired-under [] n held hn = refl
  paired-under (p ∷ ps) n held hn =
      ap (λ b. b || is_paired other (map pair_under ps) (h n)) (agrees p.0 n (All-head PairHeld p ps held) hn) ∙ ap (λ b. same p.0 n || b) (paired-under ps n (All-tail PairHeld p ps held) hn)

  map_push : (before : List (N × ℕ)) (p : N × ℕ) → map pair_under before ++ pair_under p ∷ [] ≡ map pair_under (before ++ p ∷ [])
  map_push [] p = refl
  map_push (q ∷ before) p = ap (λ qs. pair_under q ∷ qs) (map_push before p)

  doubled-under : (before : List (N × ℕ)) (k : ℕ) (pairs : List (N × ℕ)) → All PairHeld before → All PairHeld pairs → doubled_from other (map pair_under before) k (map pair_under pairs) ≡ doubled_from same before k pairs
  doubled-under before k [] hb hp = refl
  doubled-under before k (p ∷ ps) hb hp =
      let head = All-head PairHeld p ps hp in
      ap (λ b. cond b (Some k) (doubled_from other (map pair_under before ++ pair_under p ∷ []) (k + 1) (map pair_under ps))) (paired-under before p.0 hb head)
      ∙ ap (λ qs. cond (is_paired same before p.0) (Some k) (doubled_from other qs (k + 1) (map pair_under ps))) (map_push before p)
      ∙ ap (λ o. cond (is_paired same before p.0) (Some k) o) (doubled-under (before ++ p ∷ []) (k + 1) ps (All-append PairHeld before (p ∷ []) hb (All-cons PairHeld p [] head (All-nil PairHeld))) (All-tail PairHeld p ps hp))

  name_cond : (b : Bool) (f : FieldOf N) (o : Option M) (u : Option (FieldOf N)) → o ≡ option_map h (option_map (λ f. f.name) u) → cond b (Some (h f.name)) o ≡ option_map h (option_map (λ f. f.name) (cond b (Some f) u))
  name_cond true f o u e = refl
  name_cond false f o u e = e

  found_cond : (b : Bool) (f : FieldOf N) (u : Option (FieldOf M)) → option_map (λ f. f.name) (cond b (Some (field_under f)) u) ≡ cond b (Some (h f.name)) (option_map (λ f. f.name) u)
  found_cond true f u = refl
  found_cond false f u = refl

  missing-under : (shown : List (FieldOf N)) (pairs : List (N × ℕ)) → All FieldHeld shown → All PairHeld pairs → missing other (map field_under shown) (map pair_under pairs) ≡ option_map h (missing same shown pairs)
  missing-under [] pairs all held = refl
  missing-under (f ∷ fs) pairs all held =
      found_cond (not (is_paired other (map pair_under pairs) (h f.name))) f (find (λ f. not (is_paired other (map pair_under pairs) f.name)) (map field_under fs))
      ∙ ap (λ b. cond (not b) (Some (h f.name)) (missing other (map field_under fs) (map pair_under pairs))) (paired-under pairs f.name held (All-head FieldHeld f fs all))
      ∙ name_cond (not (is_paired same pairs f.name)) f (missing other (map field_under fs) (map pair_under pairs)) (find (λ f. not (is_paired same pairs f.name)) fs) (missing-under fs pairs (All-tail FieldHeld f fs all) held)

  part_mapped : (o : Option (FieldOf N)) (v : ℕ) → part_from other (option_map field_under o) v ≡ part_from same o v
  part_mapped None v = refl
  part_mapped (Some f) v = refl

  parts-under : (shown : List (FieldOf N)) (pairs : List (N × ℕ)) → All FieldHeld shown → All PairHeld pairs → parts other (map field_under shown) (map pair_under pairs) ≡ parts same shown pairs
  parts-under shown [] all held = refl
  parts-under shown (p ∷ ps) all held =
      ap (λ o. part_from other o p.1 ∷ parts other (map field_under shown) (map pair_under ps)) (field-under shown p.0 all (All-head PairHeld p ps held))
      ∙ ap (λ q. q ∷ parts other (map field_under shown) (map pair_under ps)) (part_mapped (field_for same shown p.0) p.1)
      ∙ ap (λ qs. part_from same (field_for same shown p.0) p.1 ∷ qs) (parts-under shown ps all (All-tail PairHeld p ps held))

  told-unless : (o : Option ℕ) (why : ℕ → Refusal N) (why' : ℕ → Refusal M) (next : Result ℕ (Refusal N)) (next' : Result ℕ (Refusal M)) → ((i : ℕ) → why' i ≡ renamed h (why i)) → next' ≡ told h next → unless o why' next' ≡ told h (unless o why next)
  told-unless None why why' next next' e rest = rest
  told-unless (Some i) why why' next next' e rest = ap Err (e i)

  told-missing : (o : Option N) (next : Result ℕ (Refusal N)) (next' : Result ℕ (Refusal M)) → next' ≡ told h next → unless (option_map h o) MissingField next' ≡ told h (unless o MissingField next)
  told-missing None next next' rest = rest
  told-missing (Some n) next next' rest = refl

  placed-under : (l : Layout) (excluded : ℕ → Option ℕ) (ps : List Part) (rest : ℕ) → placed {N = M} l excluded ps rest ≡ told h (placed {N = N} l excluded ps rest)
  placed-under l excluded ps rest =
      told-unless (position_from is_too_wide 0 ps) TooWide TooWide _ _ (λ i. refl)
      (told-unless (highest (is_clash ps) 32) Clash Clash _ _ (λ i. refl)
      (told-unless (highest (is_misfixed l ps) 32) FixedBit FixedBit _ _ (λ i. refl)
      (told-unless (highest (is_stray l rest) 32) RestBit RestBit _ _ (λ i. refl)
      (told-unless (excluded (made l ps rest)) Excluded Excluded (Ok (made l ps rest)) (Ok (made l ps rest)) (λ i. refl) refl))))

  pub encoded-under : (l : Layout) (excluded : ℕ → Option ℕ) (shown : List (FieldOf N)) (pairs : List (N × ℕ)) (rest : ℕ) → All FieldHeld shown → All PairHeld pairs
      → encoded other l excluded (map field_under shown) (map pair_under pairs) rest ≡ told h (encoded same l excluded shown pairs rest)
  encoded-under l excluded shown pairs rest all held =
      ap (λ o. unless o UnknownField (unless (doubled_from other [] 0 (map pair_under pairs)) DoubledField (unless (missing other (map field_under shown) (map pair_under pairs)) MissingField (placed l excluded (parts other (map field_under shown) (map pair_under pairs)) rest)))) (unknown-under shown 0 pairs all held)
      ∙ ap (λ o. unless (position_from (is_unknown same shown) 0 pairs) UnknownField (unless o DoubledField (unless (missing other (map field_under shown) (map pair_under pairs)) MissingField (placed l excluded (parts other (map field_under shown) (map pair_under pairs)) rest)))) (doubled-under [] 0 pairs (All-nil PairHeld) held)
      ∙ ap (λ o. unless (position_from (is_unknown same shown) 0 pairs) UnknownField (unless (doubled_from same [] 0 pairs) DoubledField (unless o MissingField (placed l excluded (parts other (map field_under shown) (map pair_under pairs)) rest)))) (missing-under shown pairs all held)
      ∙ ap (λ ps. unless (position_from (is_unknown same shown) 0 pairs) UnknownField (unless (doubled_from same [] 0 pairs) DoubledField (unless (option_map h (missing same shown pairs)) MissingField (placed l excluded ps rest)))) (parts-under shown pairs all held)
      ∙ told-unless (position_from (is_unknown same shown) 0 pairs) UnknownField UnknownField _ _ (λ i. refl)
      (told-unless (doubled_from same [] 0 pairs) DoubledField DoubledField _ _ (λ i. refl)
      (told-missing (missing same shown pairs) _ _ (placed-under l excluded (parts same shown pairs) rest)))

-- ---- nodes under other numbers

node-unless : {N X : Type 0} (e : ℕ → ℕ) (o : Option X) (why : X → Refusal N) (next next' : Result ℕ (Refusal N)) → ((x : X) → why x ≡ renumbered e (why x)) → next' ≡ with_node e next → unless o why next' ≡ with_node e (unless o why next)
node-unless e None why next next' same rest = rest
node-unless e (Some x) why next next' same rest = ap Err (same x)

node-excluded : {N : Type 0} (e : ℕ → ℕ) (o : Option ℕ) (w : ℕ) → unless {N = N} (option_map e o) Excluded (Ok w) ≡ with_node e (unless o Excluded (Ok w))
node-excluded e None w = refl
node-excluded e (Some k) w = refl

pub encoded-nodes : {N : Type 0} (same : N → N → Bool) (e : ℕ → ℕ) (l : Layout) (excluded : ℕ → Option ℕ) (shown : List (FieldOf N)) (pairs : List (N × ℕ)) (rest : ℕ)
    → encoded same l (λ w. option_map e (excluded w)) shown pairs rest ≡ with_node e (encoded same l excluded shown pairs rest)
encoded-nodes same e l excluded shown pairs rest =
    node-unless e (position_from (is_unknown same shown) 0 pairs) UnknownField _ _ (λ i. refl)
    (node-unless e (doubled_from same [] 0 pairs) DoubledField _ _ (λ i. refl)
    (node-unless e (missing same shown pairs) MissingField _ _ (λ i. refl)
    (node-unless e (position_from is_too_wide 0 (parts same shown pairs)) TooWide _ _ (λ i. refl)
    (node-unless e (highest (is_clash (parts same shown pairs)) 32) Clash _ _ (λ i. refl)
    (node-unless e (highest (is_misfixed l (parts same shown pairs)) 32) FixedBit _ _ (λ i. refl)
    (node-unless e (highest (is_stray l rest) 32) RestBit _ _ (λ i. refl)
    (node-excluded e (excluded (made l (parts same shown pairs) rest)) (made l (parts same shown pairs) rest))))))))

-- ---- what excludes decides last

-- the word that is placed, unless something excludes it
abbrev pub unless_excluded : {N : Type 0} → (ℕ → Option ℕ) → Result ℕ (Refusal N) → Result ℕ (Refusal N)
unless_excluded excluded (Ok w) = unless (excluded w) Excluded (Ok w)
unless_excluded excluded (Err r) = Err r

last-unless : {N X : Type 0} (excluded : ℕ → Option ℕ) (o : Option X) (why : X → Refusal N) (next next' : Result ℕ (Refusal N)) → next ≡ unless_excluded excluded next' → unless o why next ≡ unless_excluded excluded (unless o why next')
last-unless excluded None why next next' same = same
last-unless excluded (Some x) why next next' same = refl

pub encoded-last : {N : Type 0} (same : N → N → Bool) (l : Layout) (excluded : ℕ → Option ℕ) (shown : List (FieldOf N)) (pairs : List (N × ℕ)) (rest : ℕ)
    → encoded same l excluded shown pairs rest ≡ unless_excluded excluded (encoded same l (λ w. None) shown pairs rest)
encoded-last same l excluded shown pairs rest =
    last-unless excluded (position_from (is_unknown same shown) 0 pairs) UnknownField _ _
    (last-unless excluded (doubled_from same [] 0 pairs) DoubledField _ _
    (last-unless excluded (missing same shown pairs) MissingField _ _
    (last-unless excluded (position_from is_too_wide 0 (parts same shown pairs)) TooWide _ _
    (last-unless excluded (highest (is_clash (parts same shown pairs)) 32) Clash _ _
    (last-unless excluded (highest (is_misfixed l (parts same shown pairs)) 32) FixedBit _ _
    (last-unless excluded (highest (is_stray l rest) 32) RestBit _ _ refl))))))
