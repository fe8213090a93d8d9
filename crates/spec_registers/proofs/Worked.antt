-- Worked values: what the definitions say of small documents.
use Rattle.std.specs.Prelude.{◌≡◌, ℕ, ◌-◌, ◌^◌, List, [], ◌∷◌, length, flat_map, map, Option, Some, None, Result, Ok, Err, option_map, codes, refl}
use Rattle.std.specs.Fmt.{digits}
use Rattle.serde_json.specs.Read.{read}
use Rattle.serde_json.proofs.OnLiterals.{serde_json_on_literals}
use Rattle.spec_walk.specs.Event.{Why, Fault, Missing, UnlistedKind, WrongShape, BadRange, BadName}
use Rattle.spec_walk.specs.Limits.{◌>>=◌}
use Rattle.spec_expressions.specs.Scope.{Configuration}
use Rattle.spec_registers.specs.Registers.{Registers, Register, entries_of}
use Rattle.spec_registers.specs.Reading.{registers_read}
use Rattle.spec_registers.specs.View.{Piece, view}

-- of a text that is a document: what `check` tells of its registers, arrays, blocks, entries and passed accessors, or its first fault
abbrev told : Registers → List ℕ
told found = length found.registers ∷ found.arrays ∷ found.blocks ∷ length (entries_of found.registers) ∷ found.passed ∷ []

abbrev counted_in : List ℕ → Option (Result (List ℕ) Fault)
counted_in text = option_map (λ d. registers_read [] d >>= λ r. Ok (told r.0)) (read text)

abbrev counted : List ℕ → Option (Result (List ℕ) Fault)
counted numbers = Some (Ok numbers)

abbrev at_place : List ℕ → Why → Option (Result (List ℕ) Fault)
at_place at why = Some (Err (record { at = at; why = why }))

-- the registers of the small release
small_release : counted_in (codes "[{\"_type\":\"Register\",\"name\":\"MIDR_EL1\",\"fieldsets\":[{\"width\":64,\"values\":[{\"_type\":\"Fields.Field\",\"name\":\"Implementer\",\"rangeset\":[{\"start\":24,\"width\":8}]},{\"_type\":\"Fields.Field\",\"name\":\"Variant\",\"rangeset\":[{\"start\":20,\"width\":4}]},{\"_type\":\"Fields.Field\",\"name\":\"Architecture\",\"rangeset\":[{\"start\":16,\"width\":4}]},{\"_type\":\"Fields.Field\",\"name\":\"PartNum\",\"rangeset\":[{\"start\":4,\"width\":12}]},{\"_type\":\"Fields.Field\",\"name\":\"Revision\",\"rangeset\":[{\"start\":0,\"width\":4}]}]}],\"accessors\":[{\"_type\":\"Accessors.SystemAccessor\",\"name\":\"A64.MRS\",\"encoding\":[{\"encodings\":{\"op0\":{\"_type\":\"Values.Value\",\"value\":\"11\"},\"op1\":{\"_type\":\"Values.Value\",\"value\":\"000\"},\"CRn\":{\"_type\":\"Values.Value\",\"value\":\"0000\"},\"CRm\":{\"_type\":\"Values.Value\",\"value\":\"0000\"},\"op2\":{\"_type\":\"Values.Value\",\"value\":\"000\"}}}]},{\"_type\":\"Accessors.MemoryMapped\"}]},{\"_type\":\"Register\",\"name\":\"NZCV\",\"fieldsets\":[{\"width\":64,\"values\":[{\"_type\":\"Fields.Field\",\"name\":\"N\",\"rangeset\":[{\"start\":31,\"width\":1}]},{\"_type\":\"Fields.Field\",\"name\":\"Z\",\"rangeset\":[{\"start\":30,\"width\":1}]},{\"_type\":\"Fields.Field\",\"name\":\"C\",\"rangeset\":[{\"start\":29,\"width\":1}]},{\"_type\":\"Fields.Field\",\"name\":\"V\",\"rangeset\":[{\"start\":28,\"width\":1}]}]}],\"accessors\":[{\"_type\":\"Accessors.SystemAccessor\",\"name\":\"A64.MRS\",\"encoding\":[{\"encodings\":{\"op0\":{\"_type\":\"Values.Value\",\"value\":\"11\"},\"op1\":{\"_type\":\"Values.Value\",\"value\":\"011\"},\"CRn\":{\"_type\":\"Values.Value\",\"value\":\"0100\"},\"CRm\":{\"_type\":\"Values.Value\",\"value\":\"0010\"},\"op2\":{\"_type\":\"Values.Value\",\"value\":\"000\"}}}]},{\"_type\":\"Accessors.SystemAccessor\",\"name\":\"A64.MSRregister\",\"encoding\":[{\"encodings\":{\"op0\":{\"_type\":\"Values.Value\",\"value\":\"11\"},\"op1\":{\"_type\":\"Values.Value\",\"value\":\"011\"},\"CRn\":{\"_type\":\"Values.Value\",\"value\":\"0100\"},\"CRm\":{\"_type\":\"Values.Value\",\"value\":\"0010\"},\"op2\":{\"_type\":\"Values.Value\",\"value\":\"000\"}}}]}]},{\"_type\":\"Register\",\"name\":\"TPIDR_EL0\",\"fieldsets\":[{\"width\":64,\"values\":[{\"_type\":\"Fields.Field\",\"name\":\"Value\",\"rangeset\":[{\"start\":0,\"width\":64}]}]}],\"accessors\":[{\"_type\":\"Accessors.SystemAccessor\",\"name\":\"A64.MRS\",\"encoding\":[{\"encodings\":{\"op0\":{\"_type\":\"Values.Value\",\"value\":\"11\"},\"op1\":{\"_type\":\"Values.Value\",\"value\":\"011\"},\"CRn\":{\"_type\":\"Values.Value\",\"value\":\"1101\"},\"CRm\":{\"_type\":\"Values.Value\",\"value\":\"0000\"},\"op2\":{\"_type\":\"Values.Value\",\"value\":\"010\"}}}]},{\"_type\":\"Accessors.SystemAccessor\",\"name\":\"A64.MSRregister\",\"encoding\":[{\"encodings\":{\"op0\":{\"_type\":\"Values.Value\",\"value\":\"11\"},\"op1\":{\"_type\":\"Values.Value\",\"value\":\"011\"},\"CRn\":{\"_type\":\"Values.Value\",\"value\":\"1101\"},\"CRm\":{\"_type\":\"Values.Value\",\"value\":\"0000\"},\"op2\":{\"_type\":\"Values.Value\",\"value\":\"010\"}}}]}]},{\"_type\":\"RegisterArray\",\"name\":\"DBGBVR<n>_EL1\"}]") ≡ counted (3 ∷ 1 ∷ 0 ∷ 5 ∷ 1 ∷ [])
unfolding digits serde_json_on_literals
small_release = refl

-- a member of a foreign kind, in byte order before `op0`, and its place, in which `/` is written `~1`
slash_in_name : counted_in (codes "[{\"_type\":\"Register\",\"name\":\"X\",\"accessors\":[{\"_type\":\"Accessors.SystemAccessor\",\"name\":\"A64.MRS\",\"encoding\":[{\"encodings\":{\"op0\":{\"_type\":\"Bar\"},\"a/b\":{\"_type\":\"Foo\"}}}]}]}]") ≡ at_place (codes "/0/accessors/0/encoding/0/encodings/a~1b") UnlistedKind
unfolding digits serde_json_on_literals
slash_in_name = refl

-- kinds are seen before a part is missed, and `~` is written `~0`
tilde_in_name : counted_in (codes "[{\"_type\":\"Register\",\"name\":\"X\",\"accessors\":[{\"_type\":\"Accessors.SystemAccessor\",\"name\":\"A64.MRS\",\"encoding\":[{\"encodings\":{\"x~y\":{\"_type\":\"Foo\"}}}]}]}]") ≡ at_place (codes "/0/accessors/0/encoding/0/encodings/x~0y") UnlistedKind
unfolding digits serde_json_on_literals
tilde_in_name = refl

-- the parts are missed in the order of the key, and not of the bytes of their names
missing_part : counted_in (codes "[{\"_type\":\"Register\",\"name\":\"X\",\"accessors\":[{\"_type\":\"Accessors.SystemAccessor\",\"name\":\"A64.MRS\",\"encoding\":[{\"encodings\":{\"op1\":{\"_type\":\"Values.Value\",\"value\":\"000\"},\"CRm\":{\"_type\":\"Values.Value\",\"value\":\"0000\"},\"op2\":{\"_type\":\"Values.Value\",\"value\":\"000\"}}}]}]}]") ≡ at_place (codes "/0/accessors/0/encoding/0/encodings") (Missing (codes "op0"))
unfolding digits serde_json_on_literals
missing_part = refl

-- `CRm` comes before `CRn` in byte order
byte_order : counted_in (codes "[{\"_type\":\"Register\",\"name\":\"X\",\"accessors\":[{\"_type\":\"Accessors.SystemAccessor\",\"name\":\"A64.MRS\",\"encoding\":[{\"encodings\":{\"op0\":{\"_type\":\"Values.Value\",\"value\":\"11\"},\"op1\":{\"_type\":\"Values.Value\",\"value\":\"000\"},\"CRn\":{\"_type\":\"Values.Value\",\"value\":\"0x\"},\"CRm\":{\"_type\":\"Values.Value\",\"value\":\"000\"},\"op2\":{\"_type\":\"Values.Value\",\"value\":\"000\"}}}]}]}]") ≡ at_place (codes "/0/accessors/0/encoding/0/encodings/CRm/value") BadRange
unfolding digits serde_json_on_literals
byte_order = refl

-- a computed part of the key: the accessor is passed over, and nothing in it is a fault
computed_part : counted_in (codes "[{\"_type\":\"Register\",\"name\":\"Q R\",\"accessors\":[{\"_type\":\"Accessors.SystemAccessor\",\"name\":\"A64.MRS\",\"encoding\":[{\"encodings\":{\"op1\":{\"_type\":\"Values.EquationValue\"}}}]}]}]") ≡ counted (1 ∷ 0 ∷ 0 ∷ 0 ∷ 1 ∷ [])
unfolding digits serde_json_on_literals
computed_part = refl

-- so it is with faults before and behind that part, and with an accessor of another name
passed_whole : counted_in (codes "[{\"_type\":\"Register\",\"name\":\"P\",\"accessors\":[{\"_type\":\"Accessors.SystemAccessor\",\"name\":\"A64.MRS\",\"condition\":7,\"encoding\":[7,{\"encodings\":{\"op2\":{\"_type\":\"Values.EquationValue\"}}}]},{\"_type\":\"Accessors.SystemAccessor\",\"name\":\"A64.MSRimmediate\",\"encoding\":7}]}]") ≡ counted (1 ∷ 0 ∷ 0 ∷ 0 ∷ 2 ∷ [])
unfolding digits serde_json_on_literals
passed_whole = refl

-- what is no array holds no element with a computed part
no_array : counted_in (codes "[{\"_type\":\"Register\",\"name\":\"P\",\"accessors\":[{\"_type\":\"Accessors.SystemAccessor\",\"name\":\"A64.MRS\",\"encoding\":{\"encodings\":{\"op2\":{\"_type\":\"Values.EquationValue\"}}}}]}]") ≡ at_place (codes "/0/accessors/0/encoding") WrongShape
unfolding digits serde_json_on_literals
no_array = refl

-- a computed member that is no part of the key is read as another member
other_member : counted_in (codes "[{\"_type\":\"Register\",\"name\":\"P\",\"accessors\":[{\"_type\":\"Accessors.SystemAccessor\",\"name\":\"A64.MRS\",\"encoding\":[{\"encodings\":{\"op0\":{\"_type\":\"Values.Value\",\"value\":\"11\"},\"op1\":{\"_type\":\"Values.Value\",\"value\":\"000\"},\"CRn\":{\"_type\":\"Values.Value\",\"value\":\"0000\"},\"CRm\":{\"_type\":\"Values.Value\",\"value\":\"0000\"},\"op2\":{\"_type\":\"Values.Value\",\"value\":\"000\"},\"zz\":{\"_type\":\"Values.EquationValue\"}}}]}]}]") ≡ counted (1 ∷ 0 ∷ 0 ∷ 1 ∷ 0 ∷ [])
unfolding digits serde_json_on_literals
other_member = refl

-- an accessor without elements gives no entry and is not passed over
no_encoding : counted_in (codes "[{\"_type\":\"Register\",\"name\":\"P\",\"accessors\":[{\"_type\":\"Accessors.SystemAccessor\",\"name\":\"A64.MRS\",\"encoding\":[]}]}]") ≡ counted (1 ∷ 0 ∷ 0 ∷ 0 ∷ 0 ∷ [])
unfolding digits serde_json_on_literals
no_encoding = refl

-- an object is no document
no_document : counted_in (codes "{}") ≡ at_place (codes "") WrongShape
unfolding digits serde_json_on_literals
no_document = refl

-- elements, fields and accessors of kinds that are not listed
foreign_element : counted_in (codes "[{\"_type\":\"Foo\"}]") ≡ at_place (codes "/0") UnlistedKind
unfolding digits serde_json_on_literals
foreign_element = refl

foreign_field : counted_in (codes "[{\"_type\":\"Register\",\"name\":\"P\",\"fieldsets\":[{\"width\":8,\"values\":[{\"_type\":\"Fields.Reserved\"},{\"_type\":\"Field.Field\"}]}]}]") ≡ at_place (codes "/0/fieldsets/0/values/1") UnlistedKind
unfolding digits serde_json_on_literals
foreign_field = refl

foreign_accessor : counted_in (codes "[{\"_type\":\"Register\",\"name\":\"P\",\"accessors\":[{\"_type\":\"Accessors.X\"},{\"_type\":\"Accessor.X\"}]}]") ≡ at_place (codes "/0/accessors/1") UnlistedKind
unfolding digits serde_json_on_literals
foreign_accessor = refl

-- a fieldset has 1 to 128 bits
no_bits : counted_in (codes "[{\"_type\":\"Register\",\"name\":\"P\",\"fieldsets\":[{\"width\":0,\"values\":[]}]}]") ≡ at_place (codes "/0/fieldsets/0/width") WrongShape
unfolding digits serde_json_on_literals
no_bits = refl

too_many_bits : counted_in (codes "[{\"_type\":\"Register\",\"name\":\"P\",\"fieldsets\":[{\"width\":128,\"values\":[]},{\"width\":129,\"values\":[]}]}]") ≡ at_place (codes "/0/fieldsets/1/width") WrongShape
unfolding digits serde_json_on_literals
too_many_bits = refl

-- a range ends within its fieldset
past_the_width : counted_in (codes "[{\"_type\":\"Register\",\"name\":\"P\",\"fieldsets\":[{\"width\":8,\"values\":[{\"_type\":\"Fields.Field\",\"name\":\"a\",\"rangeset\":[{\"start\":0,\"width\":8}]},{\"_type\":\"Fields.Field\",\"name\":\"b\",\"rangeset\":[{\"start\":1,\"width\":8}]}]}]}]") ≡ at_place (codes "/0/fieldsets/0/values/1/rangeset/0") BadRange
unfolding digits serde_json_on_literals
past_the_width = refl

-- a field without a name is passed over before its ranges, and a wide name may have spaces, `#`, `=` and `,`
unnamed_field : counted_in (codes "[{\"_type\":\"Register\",\"name\":\"P\",\"fieldsets\":[{\"width\":8,\"values\":[{\"_type\":\"Fields.Field\",\"name\":null,\"rangeset\":7},{\"_type\":\"Fields.Field\",\"name\":\"a #=,\",\"rangeset\":[{\"start\":1,\"width\":7}]}]}]}]") ≡ counted (1 ∷ 0 ∷ 0 ∷ 0 ∷ 0 ∷ [])
unfolding digits serde_json_on_literals
unnamed_field = refl

-- a name is not empty
bad_name : counted_in (codes "[{\"_type\":\"Register\",\"name\":\"P\",\"fieldsets\":[{\"width\":8,\"values\":[{\"_type\":\"Fields.Field\",\"name\":\"\",\"rangeset\":[{\"start\":0,\"width\":8}]}]}]}]") ≡ at_place (codes "/0/fieldsets/0/values/0/name") BadName
unfolding digits serde_json_on_literals
bad_name = refl

-- the ranges of a conditional field are judged where no entry gives a candidate too
unnamed_candidates : counted_in (codes "[{\"_type\":\"Register\",\"name\":\"P\",\"fieldsets\":[{\"width\":8,\"values\":[{\"_type\":\"Fields.ConditionalField\",\"rangeset\":[{\"start\":0,\"width\":9}],\"fields\":[{\"field\":{\"_type\":\"Fields.Reserved\"}}]}]}]}]") ≡ at_place (codes "/0/fieldsets/0/values/0/rangeset/0") BadRange
unfolding digits serde_json_on_literals
unnamed_candidates = refl

foreign_candidate : counted_in (codes "[{\"_type\":\"Register\",\"name\":\"P\",\"fieldsets\":[{\"width\":8,\"values\":[{\"_type\":\"Fields.ConditionalField\",\"rangeset\":[],\"fields\":[{\"field\":{\"_type\":\"Fields.ConditionalField\",\"name\":7}},{\"field\":{\"_type\":\"Foo\"}}]}]}]}]") ≡ at_place (codes "/0/fieldsets/0/values/0/fields/1/field") UnlistedKind
unfolding digits serde_json_on_literals
foreign_candidate = refl

-- an `asmvalue` is a wide name, and is read before `encodings`
bad_asmvalue : counted_in (codes "[{\"_type\":\"Register\",\"name\":\"P\",\"accessors\":[{\"_type\":\"Accessors.SystemAccessor\",\"name\":\"A64.MRS\",\"encoding\":[{\"asmvalue\":\"\",\"encodings\":7}]}]}]") ≡ at_place (codes "/0/accessors/0/encoding/0/asmvalue") BadName
unfolding digits serde_json_on_literals
bad_asmvalue = refl

-- ---- views

-- under the configuration that says nothing, the pieces of the first fieldset of each register, as name, start, width and value
abbrev nothing : Configuration
nothing = record { parameters = []; atoms = [] }

abbrev Shown : Type 0
Shown = Option (List ℕ) × (ℕ × (ℕ × ℕ))

abbrev pieces_of : ℕ → Register → List Shown
pieces_of value r = flat_map (λ fs. map (λ (p : Piece). (p.name, (p.start, (p.width, p.value)))) (view fs nothing value)) r.fieldsets

abbrev shown_in : ℕ → List ℕ → Option (Result (List Shown) Fault)
shown_in value text = option_map (λ d. registers_read [] d >>= λ r. Ok (flat_map (pieces_of value) r.0.registers)) (read text)

abbrev field : List ℕ → ℕ → ℕ → ℕ → Shown
field name start width value = (Some name, (start, (width, value)))

abbrev gap : ℕ → ℕ → ℕ → Shown
gap start width value = (None, (start, (width, value)))

-- the flags, and gaps above and below them
flags : shown_in 0xf0000001 (codes "[{\"_type\":\"Register\",\"name\":\"NZCV\",\"fieldsets\":[{\"width\":64,\"values\":[{\"_type\":\"Fields.Field\",\"name\":\"N\",\"rangeset\":[{\"start\":31,\"width\":1}]},{\"_type\":\"Fields.Field\",\"name\":\"Z\",\"rangeset\":[{\"start\":30,\"width\":1}]},{\"_type\":\"Fields.Field\",\"name\":\"C\",\"rangeset\":[{\"start\":29,\"width\":1}]},{\"_type\":\"Fields.Field\",\"name\":\"V\",\"rangeset\":[{\"start\":28,\"width\":1}]}]}],\"accessors\":[{\"_type\":\"Accessors.SystemAccessor\",\"name\":\"A64.MRS\",\"encoding\":[{\"encodings\":{\"op0\":{\"_type\":\"Values.Value\",\"value\":\"11\"},\"op1\":{\"_type\":\"Values.Value\",\"value\":\"011\"},\"CRn\":{\"_type\":\"Values.Value\",\"value\":\"0100\"},\"CRm\":{\"_type\":\"Values.Value\",\"value\":\"0010\"},\"op2\":{\"_type\":\"Values.Value\",\"value\":\"000\"}}}]},{\"_type\":\"Accessors.SystemAccessor\",\"name\":\"A64.MSRregister\",\"encoding\":[{\"encodings\":{\"op0\":{\"_type\":\"Values.Value\",\"value\":\"11\"},\"op1\":{\"_type\":\"Values.Value\",\"value\":\"011\"},\"CRn\":{\"_type\":\"Values.Value\",\"value\":\"0100\"},\"CRm\":{\"_type\":\"Values.Value\",\"value\":\"0010\"},\"op2\":{\"_type\":\"Values.Value\",\"value\":\"000\"}}}]}]}]") ≡ Some (Ok (field (codes "N") 31 1 1 ∷ field (codes "Z") 30 1 1 ∷ field (codes "C") 29 1 1 ∷ field (codes "V") 28 1 1 ∷ gap 32 32 0 ∷ gap 0 28 1 ∷ []))
unfolding digits serde_json_on_literals
flags = refl

-- fields that lie one beside the other have no gap between them
identification : shown_in 0x410fd083 (codes "[{\"_type\":\"Register\",\"name\":\"MIDR_EL1\",\"fieldsets\":[{\"width\":64,\"values\":[{\"_type\":\"Fields.Field\",\"name\":\"Implementer\",\"rangeset\":[{\"start\":24,\"width\":8}]},{\"_type\":\"Fields.Field\",\"name\":\"Variant\",\"rangeset\":[{\"start\":20,\"width\":4}]},{\"_type\":\"Fields.Field\",\"name\":\"Architecture\",\"rangeset\":[{\"start\":16,\"width\":4}]},{\"_type\":\"Fields.Field\",\"name\":\"PartNum\",\"rangeset\":[{\"start\":4,\"width\":12}]},{\"_type\":\"Fields.Field\",\"name\":\"Revision\",\"rangeset\":[{\"start\":0,\"width\":4}]}]}],\"accessors\":[{\"_type\":\"Accessors.SystemAccessor\",\"name\":\"A64.MRS\",\"encoding\":[{\"encodings\":{\"op0\":{\"_type\":\"Values.Value\",\"value\":\"11\"},\"op1\":{\"_type\":\"Values.Value\",\"value\":\"000\"},\"CRn\":{\"_type\":\"Values.Value\",\"value\":\"0000\"},\"CRm\":{\"_type\":\"Values.Value\",\"value\":\"0000\"},\"op2\":{\"_type\":\"Values.Value\",\"value\":\"000\"}}}]},{\"_type\":\"Accessors.MemoryMapped\"}]}]") ≡ Some (Ok (field (codes "Implementer") 24 8 65 ∷ field (codes "Variant") 20 4 0 ∷ field (codes "Architecture") 16 4 15 ∷ field (codes "PartNum") 4 12 3336 ∷ field (codes "Revision") 0 4 3 ∷ gap 32 32 0 ∷ []))
unfolding digits serde_json_on_literals
identification = refl

-- of two candidates the one whose condition is No is not there; the ranges are those of the conditional field
candidate : shown_in 0x35 (codes "[{\"_type\":\"Register\",\"name\":\"Q\",\"fieldsets\":[{\"width\":8,\"values\":[{\"_type\":\"Fields.ConditionalField\",\"rangeset\":[{\"start\":0,\"width\":4}],\"fields\":[{\"condition\":{\"_type\":\"AST.Bool\",\"value\":false},\"field\":{\"_type\":\"Fields.Field\",\"name\":\"A\"}},{\"field\":{\"_type\":\"Fields.Field\",\"name\":\"B\",\"rangeset\":7}}]}]}]}]") ≡ Some (Ok (field (codes "B") 0 4 5 ∷ gap 4 4 3 ∷ []))
unfolding digits serde_json_on_literals
candidate = refl

-- one field is the whole fieldset
whole : shown_in 17 (codes "[{\"_type\":\"Register\",\"name\":\"TPIDR_EL0\",\"fieldsets\":[{\"width\":64,\"values\":[{\"_type\":\"Fields.Field\",\"name\":\"Value\",\"rangeset\":[{\"start\":0,\"width\":64}]}]}],\"accessors\":[{\"_type\":\"Accessors.SystemAccessor\",\"name\":\"A64.MRS\",\"encoding\":[{\"encodings\":{\"op0\":{\"_type\":\"Values.Value\",\"value\":\"11\"},\"op1\":{\"_type\":\"Values.Value\",\"value\":\"011\"},\"CRn\":{\"_type\":\"Values.Value\",\"value\":\"1101\"},\"CRm\":{\"_type\":\"Values.Value\",\"value\":\"0000\"},\"op2\":{\"_type\":\"Values.Value\",\"value\":\"010\"}}}]},{\"_type\":\"Accessors.SystemAccessor\",\"name\":\"A64.MSRregister\",\"encoding\":[{\"encodings\":{\"op0\":{\"_type\":\"Values.Value\",\"value\":\"11\"},\"op1\":{\"_type\":\"Values.Value\",\"value\":\"011\"},\"CRn\":{\"_type\":\"Values.Value\",\"value\":\"1101\"},\"CRm\":{\"_type\":\"Values.Value\",\"value\":\"0000\"},\"op2\":{\"_type\":\"Values.Value\",\"value\":\"010\"}}}]}]}]") ≡ Some (Ok (field (codes "Value") 0 64 17 ∷ []))
unfolding digits serde_json_on_literals
whole = refl

-- 128 bits in two ranges of one field, with a gap between them, and a field that overlaps one
widest : shown_in (2 ^ 128 - 1) (codes "[{\"_type\":\"Register\",\"name\":\"W\",\"fieldsets\":[{\"width\":128,\"values\":[{\"_type\":\"Fields.Field\",\"name\":\"w\",\"rangeset\":[{\"start\":127,\"width\":1},{\"start\":0,\"width\":120}]},{\"_type\":\"Fields.Field\",\"name\":\"v\",\"rangeset\":[{\"start\":119,\"width\":2}]}]}]}]") ≡ Some (Ok (field (codes "w") 127 1 1 ∷ field (codes "w") 0 120 (2 ^ 120 - 1) ∷ field (codes "v") 119 2 3 ∷ gap 121 6 63 ∷ []))
unfolding digits serde_json_on_literals
widest = refl

-- a field whose condition is Open is shown
open_condition : shown_in 11 (codes "[{\"_type\":\"Register\",\"name\":\"O\",\"fieldsets\":[{\"width\":4,\"values\":[{\"_type\":\"Fields.ConditionalField\",\"rangeset\":[{\"start\":1,\"width\":2}],\"fields\":[{\"condition\":{\"_type\":\"AST.Identifier\",\"value\":\"F\"},\"field\":{\"_type\":\"Fields.Field\",\"name\":\"a\"}},{\"condition\":{\"_type\":\"AST.Bool\",\"value\":false},\"field\":{\"_type\":\"Fields.Field\",\"name\":\"b\"}}]}]}]}]") ≡ Some (Ok (field (codes "a") 1 2 1 ∷ gap 3 1 1 ∷ gap 0 1 1 ∷ []))
unfolding digits serde_json_on_literals
open_condition = refl

-- a fieldset without fields is one gap
no_field : shown_in 1 (codes "[{\"_type\":\"Register\",\"name\":\"E\",\"fieldsets\":[{\"width\":1,\"values\":[{\"_type\":\"Fields.Field\",\"name\":\"e\",\"rangeset\":[]}]}]}]") ≡ Some (Ok (gap 0 1 1 ∷ []))
unfolding digits serde_json_on_literals
no_field = refl
