-- The registers of an accepted document are sound.
use Rattle.std.proofs.Common.{◌≡◌, ◌∙◌, sym, ap, refl, subst, ℕ, ◌+◌, ◌<◌, ◌≤◌, ◌^◌, List, [], ◌∷◌, ◌++◌, length, flat_map, find, cond, Bool, true, false, Option, Some, None, option_and_then, unwrap_or, Result, Ok, Err, codes, arith, length-append}
use Rattle.std.specs.Prelude.{⊤, ◌==◌, nat_le, nat_lt, IfSome, bytes_eq, if◌then◌else◌}
use Rattle.std.proofs.lemmas.Bool.{ltb-true, leb-true, and_parts, eqb-true}
use Rattle.serde_json.specs.Data.{Items, no_items, item, Members, no_members, member}
use Rattle.std.proofs.lemmas.Slice.Eq.{bytes_eq-Decides}
use Rattle.std.proofs.lemmas.Grind.{flat_map-append}
use Rattle.serde_json.specs.Find.{as_object, as_number, as_u64}
use Rattle.spec_bits.specs.Pattern.{Digit}
use Rattle.spec_bits.specs.PatternText.{PatternRefusal, pattern_in}
use Rattle.spec_walk.specs.Pointer as pointer
use Rattle.spec_walk.specs.Event.{Why, WrongShape, BadRange, BadName, TooMany, Missing}
use Rattle.spec_walk.specs.Limits.{from_held}
use Rattle.spec_walk.specs.Walk.{Walk, Done, ◌>>>◌}
use Rattle.spec_walk.specs.Spot.{Spot, spot, root, unless, needs, an_object, elements, text, whole_number, number_below, needed, optional, kind, exactly, named, each}
use Rattle.spec_walk.proofs.FirstFaultLaws.{answers-gives}
use Rattle.spec_walk.proofs.EveryLaws.{Every, every-gives, every-then, every-next, every-unless, every-needs, every-optional, every-each, every-weaker, AllOf}
use Rattle.spec_expressions.specs.Expression.{Expr}
use Rattle.spec_instructions.specs.Encodeset.{Range, pattern, value}
use Rattle.spec_registers.specs.Name.{is_wide_name}
use Rattle.spec_registers.specs.Limits.{register_limit, fieldset_limit, entry_limit, width_limit}
use Rattle.spec_registers.specs.Kind as kind_of
use Rattle.spec_registers.specs.Kind.{FieldKind, ConditionalField, OtherField, field_named, AccessorKind, SystemAccessor, OtherAccessor, accessor_named, ElementKind, RegisterArray, RegisterBlock, element_named}
use Rattle.spec_registers.specs.Registers.{Direction, Field, Fieldset, Entry, Registers, together, entries_of}
use Rattle.spec_registers.specs.Gaps.{IsWithin}
use Rattle.spec_registers.specs.Fields.{wide_name, condition, is_range, range, rangeset, plain_field, candidate_name, candidates, candidate, field_of, field, width, fieldset}
use Rattle.spec_registers.specs.Key.{Part, Op0, Op1, CRn, CRm, Op2, parts, part_text, part_width, part_named, Given, given_by, given, each_member, part_given, joined, encodings}
use Rattle.spec_registers.specs.Accessors.{Accessor, accessor_entries, entries_in, Shared, entry, directed, direction_of, accessor_of, accessor}
use Rattle.spec_registers.specs.Walk.{listed, register, element_of, element, registers}
use Rattle.spec_registers.specs.Sound.{HasSoundRanges, IsSoundFieldset, HasFieldNames, IsSoundEntry, IsSoundRegister, AreSound, RegistersAreSound}

-- ---- lists

all-append : {X : Type 0} (P : X → Type 0) (xs ys : List X) → AllOf P xs → AllOf P ys → AllOf P (xs ++ ys)
all-append P [] ys h k = k
all-append P (x ∷ xs) ys h k = (h.0, all-append P xs ys h.1 k)

all-flat : {X Y : Type 0} (P : Y → Type 0) (f : X → List Y) (xs : List X) → AllOf (λ x. AllOf P (f x)) xs → AllOf P (flat_map f xs)
all-flat P f [] h = tt
all-flat P f (x ∷ xs) h = all-append P (f x) (flat_map f xs) h.0 (all-flat P f xs h.1)

flat-with : {X Y : Type 0} (f : X → List Y) (xs : List X) (x : X) → flat_map f (xs ++ x ∷ []) ≡ flat_map f xs ++ f x
flat-with f [] x = append_nil (f x)
  where
    append_nil : {Y : Type 0} (ys : List Y) → ys ++ [] ≡ ys
    append_nil [] = refl
    append_nil (y ∷ ys) = ap (λ zs. y ∷ zs) (append_nil ys)
flat-with f (z ∷ xs) x = ap (λ zs. f z ++ zs) (flat-with f xs x) ∙ assoc (f z) (flat_map f xs) (f x)
  where
    assoc : {Y : Type 0} (xs ys zs : List Y) → xs ++ (ys ++ zs) ≡ xs ++ ys ++ zs
    assoc [] ys zs = refl
    assoc (x ∷ xs) ys zs = ap (λ rest. x ∷ rest) (assoc xs ys zs)

-- what is read of an array has a property of lists that each element keeps
every-list : {A : Type 0} (Q : List A → Type 0) (read : List A → Spot → Walk A) (at : List ℕ) (before : List A) (ds : Items)
    → ((xs : List A) (here : Spot) → Q xs → Every (λ x. Q (xs ++ x ∷ [])) (read xs here)) → Q before → Every Q (each read at before ds)
every-list Q read at before no_items keeps h = h
every-list Q read at before (item d ds) keeps h =
    every-then (λ x. Q (before ++ x ∷ [])) Q (read before (spot (pointer.element at (length before)) d)) (λ x. each read at (before ++ x ∷ []) ds)
    (keeps before (spot (pointer.element at (length before)) d) h) (λ x kept. every-list Q read at (before ++ x ∷ []) ds keeps kept)

-- a test, and behind it what needs it
behind : {A : Type 0} (Q : A → Type 0) (b : Bool) (here : Spot) (why : Why) (next : ⊤ → Walk A) → (b ≡ true → Every Q (next tt)) → Every Q (unless b here why >>> next)
behind Q b here why next h = every-then (λ _. b ≡ true) Q (unless b here why) next (every-unless b here why) (λ _ is. h is)

-- a number that is read below a limit is below it
number_is : (limit : ℕ) (here : Spot) → Every (λ n. n < limit) (number_below limit here)
number_is limit here =
    every-weaker _ _ (number_below limit here) (λ n e. below (option_and_then as_u64 (as_number here.value)) n e)
    (every-needs (whole_number limit here.value) here WrongShape)
  where
    one : (b : Bool) (m n : ℕ) → nat_lt m limit ≡ b → cond b (Some m) None ≡ Some n → n < limit
    one true m n less e = subst (λ k. k < limit) (ap (λ o. unwrap_or o m) e) (ltb-true m limit less)
    one false m n less e = absurd cc

    below : (o : Option ℕ) (n : ℕ) → option_and_then (λ m. if nat_lt m limit then Some m else None) o ≡ Some n → n < limit
    below None n e = absurd cc
    below (Some m) n e = one (nat_lt m limit) m n refl e

-- ---- names

wide_name_is : (owner place : Spot) → Every (λ s. is_wide_name s ≡ true) (wide_name owner place)
wide_name_is owner place =
    every-next _ (text place) _ (λ s. behind _ (is_wide_name s) place BadName (λ _. named owner s) (λ is. is))

-- ---- fields

range_within : (bits : ℕ) (here : Spot) → Every (IsWithin bits) (range bits here)
range_within bits here =
    every-next _ (an_object here) _ (λ _.
    every-next _ (needed (codes "start") here >>> number_below (2 ^ 32)) _ (λ start.
    every-next _ (needed (codes "width") here >>> number_below (2 ^ 32)) _ (λ width.
    behind (IsWithin bits) (is_range bits start width) here BadRange (λ _. Done (record { start = start; width = width })) (λ is.
    let parts = and_parts (nat_le 1 width) (nat_le (start + width) bits) is in
    record { some = leb-true 1 width parts.0; fits = leb-true (start + width) bits parts.1 }))))

rangeset_within : (bits : ℕ) (here : Spot) → Every (AllOf (IsWithin bits)) (rangeset bits here)
rangeset_within bits here =
    every-next _ (needed (codes "rangeset") here) _ (λ list.
    every-next _ (elements list) _ (λ ds.
    every-each (IsWithin bits) (λ before. range bits) list.at [] ds (λ xs at h. range_within bits at) tt))

abbrev IsSoundField : ℕ → Field → Type 0
IsSoundField bits f = HasSoundRanges bits f × (is_wide_name f.name ≡ true)

plain_field_sound : (bits : ℕ) (here : Spot) (name : Option (List ℕ)) → IfSome name (λ s. is_wide_name s ≡ true) → Every (AllOf (IsSoundField bits)) (plain_field bits here name)
plain_field_sound bits here None h = tt
plain_field_sound bits here (Some name) h =
    every-then (AllOf (IsWithin bits)) _ (rangeset bits here) _ (rangeset_within bits here) (λ ranges within. ((record { ranges = within }, h), tt))

candidate_name_is : (here : Spot) (kind : FieldKind) → Every (λ o. IfSome o (λ s. is_wide_name s ≡ true)) (candidate_name here kind)
candidate_name_is here kind_of.Field = every-optional (λ s. is_wide_name s ≡ true) (codes "name") (wide_name here) here (wide_name_is here)
candidate_name_is here ConditionalField = tt
candidate_name_is here OtherField = tt

candidates_sound : (bits : ℕ) (ranges : List Range) (condition : Option Expr) (name : Option (List ℕ)) → AllOf (IsWithin bits) ranges → IfSome name (λ s. is_wide_name s ≡ true) → AllOf (IsSoundField bits) (candidates ranges condition name)
candidates_sound bits ranges condition None within h = tt
candidates_sound bits ranges condition (Some name) within h = ((record { ranges = within }, h), tt)

candidate_sound : (bits : ℕ) (ranges : List Range) (here : Spot) → AllOf (IsWithin bits) ranges → Every (AllOf (IsSoundField bits)) (candidate ranges here)
candidate_sound bits ranges here within =
    every-next _ (an_object here) _ (λ _.
    every-next _ (condition here) _ (λ found.
    every-next _ (needed (codes "field") here) _ (λ inner.
    every-then (λ o. IfSome o (λ s. is_wide_name s ≡ true)) _ (kind field_named inner >>> candidate_name inner) _
    (every-next _ (kind field_named inner) (candidate_name inner) (candidate_name_is inner))
    (λ name is. candidates_sound bits ranges found name within is))))

field_of_sound : (bits : ℕ) (here : Spot) (kind : FieldKind) → Every (AllOf (IsSoundField bits)) (field_of bits here kind)
field_of_sound bits here kind_of.Field =
    every-then (λ o. IfSome o (λ s. is_wide_name s ≡ true)) _ (optional (codes "name") (wide_name here) here) (plain_field bits here)
    (every-optional (λ s. is_wide_name s ≡ true) (codes "name") (wide_name here) here (wide_name_is here)) (plain_field_sound bits here)
field_of_sound bits here ConditionalField =
    every-then (AllOf (IsWithin bits)) _ (rangeset bits here) _ (rangeset_within bits here) (λ ranges within.
    every-next _ (needed (codes "fields") here) _ (λ list.
    every-then (AllOf (AllOf (IsSoundField bits))) _ (elements list >>> each (λ before. candidate ranges) list.at []) _
    (every-next _ (elements list) _ (λ ds. every-each (AllOf (IsSoundField bits)) (λ before. candidate ranges) list.at [] ds (λ xs at h. candidate_sound bits ranges at within) tt))
    (λ found all. all-flat (IsSoundField bits) (λ fields. fields) found all)))
field_of_sound bits here OtherField = tt

field_sound : (bits : ℕ) (here : Spot) → Every (AllOf (IsSoundField bits)) (field bits here)
field_sound bits here = every-next _ (kind field_named here) (field_of bits here) (field_of_sound bits here)

-- ---- fieldsets

width_within : (here : Spot) → Every (λ bits. (1 ≤ bits) × (bits ≤ width_limit)) (width here)
width_within here =
    every-next _ (needed (codes "width") here) _ (λ place.
    every-then (λ bits. bits < width_limit + 1) _ (number_below (width_limit + 1) place) _ (below place)
    (λ bits less. behind _ (nat_le 1 bits) place WrongShape (λ _. Done bits) (λ is. (leb-true 1 bits is, omega (arith, less)))))
  where
    below : (place : Spot) → Every (λ bits. bits < width_limit + 1) (number_below (width_limit + 1) place)
    below place = number_is (width_limit + 1) place

ranges_only : (bits : ℕ) (fields : List Field) → AllOf (IsSoundField bits) fields → AllOf (HasSoundRanges bits) fields
ranges_only bits [] h = tt
ranges_only bits (f ∷ fields) h = (h.0.0, ranges_only bits fields h.1)

names_only : (bits : ℕ) (fields : List Field) → AllOf (IsSoundField bits) fields → AllOf (λ (f : Field). is_wide_name f.name ≡ true) fields
names_only bits [] h = tt
names_only bits (f ∷ fields) h = (h.0.1, names_only bits fields h.1)

abbrev IsWholeFieldset : Fieldset → Type 0
IsWholeFieldset fs = IsSoundFieldset fs × HasFieldNames fs

-- a fieldset is sound, and is read only where there is room for it
fieldset_sound : (before : List Fieldset) (here : Spot) → Every (λ fs. IsWholeFieldset fs × (length before < fieldset_limit)) (fieldset before here)
fieldset_sound before here =
    every-next _ (an_object here) _ (λ _.
    every-then (λ bits. (1 ≤ bits) × (bits ≤ width_limit)) _ (width here) _ (width_within here) (λ bits within.
    behind _ (nat_lt (length before) fieldset_limit) here TooMany _ (λ room.
    every-next _ (condition here) _ (λ found.
    every-next _ (needed (codes "values") here) _ (λ list.
    every-then (AllOf (AllOf (IsSoundField bits))) _ (elements list >>> each (λ before. field bits) list.at []) _
    (every-next _ (elements list) _ (λ ds. every-each (AllOf (IsSoundField bits)) (λ before. field bits) list.at [] ds (λ xs at h. field_sound bits at) tt))
    (λ fields all.
    let flat = all-flat (IsSoundField bits) (λ fields. fields) fields all in
    ((record { some = within.0; most = within.1; fields = ranges_only bits _ flat }, record { names = names_only bits _ flat }), ltb-true (length before) fieldset_limit room)))))))

-- ---- keys

-- a value has as many digits as are wanted
pattern_wide : (wanted : ℕ) (here : Spot) (read : Result (List Digit) PatternRefusal) → Every (λ ds. length ds ≡ wanted) (pattern wanted here read)
pattern_wide wanted here (Err refusal) = tt
pattern_wide wanted here (Ok digits) = behind _ (length digits == wanted) here BadRange (λ _. Done digits) (λ is. eqb-true (length digits) wanted is)

value_wide : (wanted : ℕ) (here : Spot) → Every (λ ds. length ds ≡ wanted) (value wanted here)
value_wide wanted here =
    every-next _ (exactly (codes "Values.Value") here) _ (λ _.
    every-next _ (needed (codes "value") here) _ (λ place.
    every-next _ (text place) _ (λ s. pattern_wide wanted place (pattern_in s))))

abbrev widths : List Part → ℕ
widths [] = 0
widths (p ∷ ps) = part_width p + widths ps

-- the digits of a part of the key are as many as the part has
abbrev IsGiven : Given → Type 0
IsGiven g = (p : Part) (ds : List Digit) → bytes_eq (part_text p) g.name ≡ true → g.digits ≡ Some ds → length ds ≡ part_width p

part_is : (p q : Part) (name : List ℕ) → part_named name ≡ Some q → bytes_eq (part_text p) name ≡ true → p ≡ q
part_is p q name e same = some-same (sym (named_is p) ∙ ap part_named ((bytes_eq-Decides (part_text p) name).0 same) ∙ e)
  where
    named_is : (p : Part) → part_named (part_text p) ≡ Some p
    named_is Op0 = refl
    named_is Op1 = refl
    named_is CRn = refl
    named_is CRm = refl
    named_is Op2 = refl

    some-same : {a b : Part} → Some a ≡ Some b → a ≡ b
    some-same h = ap (λ o. unwrap_or o Op0) h

given_by_is : (name : List ℕ) (here : Spot) (o : Option Part) → part_named name ≡ o → Every IsGiven (given_by name here o)
given_by_is name here (Some q) e =
    every-then (λ ds. length ds ≡ part_width q) IsGiven (value (part_width q) here) _ (value_wide (part_width q) here)
    (λ digits wide p ds same is. ap length (some-digits (sym is)) ∙ wide ∙ ap part_width (sym (part_is p q name e same)))
  where
    some-digits : {a b : List Digit} → Some a ≡ Some b → a ≡ b
    some-digits h = ap (λ o. unwrap_or o []) h
given_by_is name here None e = every-next IsGiven (kind kind_of.value_named here) _ (λ _ p ds same is. absurd cc)

every-member : {A : Type 0} (P : A → Type 0) (read : List ℕ → Spot → Walk A) (at : List ℕ) (before : List A) (ms : Members)
    → ((key : List ℕ) (here : Spot) → Every P (read key here)) → AllOf P before → Every (AllOf P) (each_member read at before ms)
every-member P read at before no_members h all = all
every-member P read at before (member key d ms) h all =
    every-then P (AllOf P) (read key (spot (pointer.under at key) d)) (λ x. each_member read at (before ++ x ∷ []) ms) (h key (spot (pointer.under at key) d))
    (λ x p. every-member P read at (before ++ x ∷ []) ms h (all-append P before (x ∷ []) all (p, tt)))

given_digits : (p : Part) (members : List Given) (ds : List Digit) → AllOf IsGiven members → part_given p members ≡ Some ds → length ds ≡ part_width p
given_digits p [] ds all e = absurd cc
given_digits p (g ∷ gs) ds all e = go (bytes_eq (part_text p) g.name) refl (given_digits p gs ds all.1) e
  where
    go : (b : Bool) → bytes_eq (part_text p) g.name ≡ b → (part_given p gs ≡ Some ds → length ds ≡ part_width p)
        → option_and_then (λ (h : Given). h.digits) (cond b (Some g) (find (λ (h : Given). bytes_eq (part_text p) h.name) gs)) ≡ Some ds → length ds ≡ part_width p
    go true same later is = all.0 p ds same is
    go false same later is = later is

joined_wide : (here : Spot) (members : List Given) (ps : List Part) → AllOf IsGiven members → Every (λ ds. length ds ≡ widths ps) (joined here members ps)
joined_wide here members [] all = refl
joined_wide here members (p ∷ ps) all =
    every-then (λ ds. part_given p members ≡ Some ds) _ (needs (part_given p members) here (Missing (part_text p))) _ (every-needs (part_given p members) here (Missing (part_text p)))
    (λ digits e. every-then (λ ds. length ds ≡ widths ps) _ (joined here members ps) _ (joined_wide here members ps all)
    (λ lower wide. length-append digits lower ∙ omega (arith, given_digits p members digits all e, wide)))

encodings_wide : (here : Spot) → Every (λ ds. length ds ≡ 16) (encodings here)
encodings_wide here =
    every-then (AllOf IsGiven) _ (needs (as_object here.value) here WrongShape >>> each_member given here.at []) _
    (every-next _ (needs (as_object here.value) here WrongShape) _ (λ ms. every-member IsGiven given here.at [] ms (λ key at. given_by_is key at (part_named key) refl) tt))
    (λ members all. joined_wide here members parts all)

-- ---- entries

entry_sound : (shared : Shared) (earlier : ℕ) (here : Spot) → is_wide_name shared.register ≡ true → Every (λ e. IsSoundEntry e × (earlier < entry_limit)) (entry shared earlier here)
entry_sound shared earlier here named =
    every-next _ (an_object here) _ (λ _.
    every-then (λ o. IfSome o (λ s. is_wide_name s ≡ true)) _ (optional (codes "asmvalue") (wide_name here) here) _
    (every-optional (λ s. is_wide_name s ≡ true) (codes "asmvalue") (wide_name here) here (wide_name_is here)) (λ name is.
    every-then (λ ds. length ds ≡ 16) _ (needed (codes "encodings") here >>> encodings) _ (every-next _ (needed (codes "encodings") here) encodings encodings_wide) (λ key wide.
    behind _ (nat_lt earlier entry_limit) here TooMany _ (λ room. (record { name = either name is; key = wide }, ltb-true earlier entry_limit room)))))
  where
    either : (o : Option (List ℕ)) → IfSome o (λ s. is_wide_name s ≡ true) → is_wide_name (unwrap_or o shared.register) ≡ true
    either None h = named
    either (Some s) h = h

abbrev AreSoundEntries : ℕ → List Entry → Type 0
AreSoundEntries earlier entries = (earlier + length entries ≤ entry_limit) × AllOf IsSoundEntry entries

entries-with : (earlier : ℕ) (xs ys : List Entry) → AreSoundEntries earlier xs → AreSoundEntries (earlier + length xs) ys → AreSoundEntries earlier (xs ++ ys)
entries-with earlier xs ys h k = (omega (arith, length-append xs ys, k.0), all-append IsSoundEntry xs ys h.1 k.1)

directed_sound : (name : List ℕ) (earlier : ℕ) (here : Spot) (direction : Option Direction) → is_wide_name name ≡ true → earlier ≤ entry_limit
    → Every (λ a. AreSoundEntries earlier (accessor_entries a)) (directed name earlier here direction)
directed_sound name earlier here None named few = (omega (arith, few), tt)
directed_sound name earlier here (Some direction) named few =
    every-next _ (condition here) _ (λ found.
    every-next _ (needed (codes "encoding") here) _ (λ list.
    let shared : Shared = record { register = name; direction = direction; condition = found } in
    every-then (AreSoundEntries earlier) _ (elements list >>> each (λ before. entry shared (earlier + length before)) list.at []) _
    (every-next _ (elements list) _ (λ ds. every-list (AreSoundEntries earlier) (λ before. entry shared (earlier + length before)) list.at [] ds
    (λ xs at h. every-weaker _ _ (entry shared (earlier + length xs) at) (λ e k. entries-with earlier xs (e ∷ []) h (omega (arith, k.1), (k.0, tt))) (entry_sound shared (earlier + length xs) at named))
    (omega (arith, few), tt)))
    (λ entries h. h)))

accessor_sound : (name : List ℕ) (earlier : ℕ) (before : List Accessor) (here : Spot) → is_wide_name name ≡ true → earlier + length (entries_in before) ≤ entry_limit
    → Every (λ a. AreSoundEntries (earlier + length (entries_in before)) (accessor_entries a)) (accessor name earlier before here)
accessor_sound name earlier before here named few = every-next _ (kind accessor_named here) _ by_kind
  where
    by_kind : (kind : AccessorKind) → Every (λ a. AreSoundEntries (earlier + length (entries_in before)) (accessor_entries a)) (accessor_of name (earlier + length (entries_in before)) here kind)
    by_kind SystemAccessor = every-next _ (needed (codes "name") here >>> text) _ (λ s. directed_sound name (earlier + length (entries_in before)) here (direction_of s here) named few)
    by_kind OtherAccessor = (omega (arith, few), tt)

-- ---- registers

listed_has : {A : Type 0} (Q : List A → Type 0) (key : List ℕ) (read : List A → Spot → Walk A) (here : Spot)
    → ((xs : List A) (at : Spot) → Q xs → Every (λ x. Q (xs ++ x ∷ [])) (read xs at)) → Q [] → Every Q (listed key read here)
listed_has {A = A} Q key read here keeps start =
    every-then (λ o. IfSome o Q) Q (optional key (λ list. elements list >>> each read list.at []) here) _
    (every-optional Q key (λ list. elements list >>> each read list.at []) here (λ list. every-next Q (elements list) _ (λ ds. every-list Q read list.at [] ds keeps start)))
    (λ o h. either o h)
  where
    either : (o : Option (List A)) → IfSome o Q → Q (unwrap_or o [])
    either None h = start
    either (Some xs) h = h

abbrev AreSoundFieldsets : List Fieldset → Type 0
AreSoundFieldsets fs = (length fs ≤ fieldset_limit) × AllOf IsWholeFieldset fs

abbrev IsSoundBehind : Registers → Registers → Type 0
IsSoundBehind before found = (length before.registers + length found.registers ≤ register_limit) × (AreSoundEntries (length (entries_of before.registers)) (entries_of found.registers) × AllOf IsSoundRegister found.registers)

register_sound : (before : Registers) (here : Spot) → length (entries_of before.registers) ≤ entry_limit → Every (IsSoundBehind before) (register before here)
register_sound before here few =
    every-then (λ s. is_wide_name s ≡ true) _ (needed (codes "name") here >>> wide_name here) _ (every-next _ (needed (codes "name") here) (wide_name here) (wide_name_is here)) (λ name named.
    behind _ (nat_lt (length before.registers) register_limit) here TooMany _ (λ room.
    every-next _ (condition here) _ (λ found.
    every-then AreSoundFieldsets _ (listed (codes "fieldsets") fieldset here) _
    (listed_has AreSoundFieldsets (codes "fieldsets") fieldset here
    (λ xs at h. every-weaker _ _ (fieldset xs at) (λ fs k. (omega (arith, length-append xs (fs ∷ []), k.1), all-append IsWholeFieldset xs (fs ∷ []) h.1 (k.0, tt))) (fieldset_sound xs at))
    (omega arith, tt)) (λ fieldsets sets.
    every-then (λ accessors. AreSoundEntries (length (entries_of before.registers)) (entries_in accessors)) _ (listed (codes "accessors") (accessor name (length (entries_of before.registers))) here) _
    (listed_has (λ accessors. AreSoundEntries (length (entries_of before.registers)) (entries_in accessors)) (codes "accessors") (accessor name (length (entries_of before.registers))) here
    (λ xs at h. every-weaker _ _ (accessor name (length (entries_of before.registers)) xs at)
    (λ a k. subst (AreSoundEntries (length (entries_of before.registers))) (sym (flat-with accessor_entries xs a)) (entries-with (length (entries_of before.registers)) (entries_in xs) (accessor_entries a) h k))
    (accessor_sound name (length (entries_of before.registers)) xs at named h.0))
    (omega (arith, few), tt)) (λ accessors entries. (
      omega (arith, ltb-true (length before.registers) register_limit room),
      (
        subst (AreSoundEntries (length (entries_of before.registers))) (sym (append_nil (entries_in accessors))) entries,
        (record { name = named; few = sets.0; fieldsets = sets.1; entries = entries.1 }, tt),
      ),
    ))))))
  where
    append_nil : {Y : Type 0} (ys : List Y) → ys ++ [] ≡ ys
    append_nil [] = refl
    append_nil (y ∷ ys) = ap (λ zs. y ∷ zs) (append_nil ys)

element_sound : (before : List Registers) (here : Spot) → AreSound (together before) → Every (λ x. AreSound (together (before ++ x ∷ []))) (element before here)
element_sound before here h =
    every-weaker (IsSoundBehind (together before)) _ (element before here) grown (every-next _ (kind element_named here) _ by_kind)
  where
    by_kind : (kind : ElementKind) → Every (IsSoundBehind (together before)) (element_of (together before) here kind)
    by_kind kind_of.Register = register_sound (together before) here h.few_entries
    by_kind RegisterArray = (omega (arith, h.few), ((omega (arith, h.few_entries), tt), tt))
    by_kind RegisterBlock = (omega (arith, h.few), ((omega (arith, h.few_entries), tt), tt))

    grown : (x : Registers) → IsSoundBehind (together before) x → AreSound (together (before ++ x ∷ []))
    grown x k =
        let split : (together (before ++ x ∷ [])).registers ≡ (together before).registers ++ x.registers = flat-with (λ p. p.registers) before x in
        let all : entries_of ((together before).registers ++ x.registers) ≡ entries_of (together before).registers ++ entries_of x.registers
        = flat_map-append (λ r. r.entries) (together before).registers x.registers in
        record {
          few = omega (arith, ap length split, length-append (together before).registers x.registers, k.0);
          few_entries = omega (arith, ap (λ rs. length (entries_of rs)) split, ap length all, length-append (entries_of (together before).registers) (entries_of x.registers), k.1.0.0);
          each = subst (AllOf IsSoundRegister) (sym split) (all-append IsSoundRegister (together before).registers x.registers h.each k.1.1);
        }

registers_sound : (here : Spot) → Every AreSound (registers here)
registers_sound here =
    every-then (λ found. AreSound (together found)) AreSound (elements here >>> each element here.at []) _
    (every-next _ (elements here) _ (λ ds. every-list (λ found. AreSound (together found)) element here.at [] ds element_sound (record { few = omega arith; few_entries = omega arith; each = tt })))
    (λ found h. h)

pub registers_are_sound : RegistersAreSound
registers_are_sound held d found counts read =
    every-gives AreSound (registers (root d)) (from_held held) counts found (registers_sound (root d)) (sym (answers-gives (registers (root d)) (from_held held)) ∙ read)
