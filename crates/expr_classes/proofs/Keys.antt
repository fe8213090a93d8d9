-- Keys that are equal by their derived comparison are equal.
use Rattle.std.proofs.Common.{◌≡◌, ◌==◌, ◌&&◌, ℕ, Bool, true, false, refl, ap, ◌∙◌}
use Rattle.std.proofs.lemmas.Bool.{false≢true, and_parts, and_from}
use Rattle.std.proofs.lemmas.Bool.Decides.{Decides-eqb, Decides-int_eq}
use Rattle.mrs_arena.specs.declared.op.Op.{Op}
use Rattle.mrs_arena.specs.declared.func.Func.{Func}
use Rattle.mrs_names.specs.declared.name_id.NameId.{NameId}
use Rattle.expr_classes.specs.declared.key.Key.{Key}
use Rattle.expr_classes.specs.declared.key.Key.TheVariants as key
use Rattle.expr_classes.specs.contracts.key.KeyPartialEq.TheImpl as impl
use Rattle.mrs_arena.specs.contracts.op.OpPartialEq.TheImpl as op_impl
use Rattle.mrs_arena.specs.contracts.func.FuncPartialEq.TheImpl as func_impl
use Rattle.mrs_arena.specs.declared.op.Op.TheVariants as op
use Rattle.mrs_arena.specs.declared.func.Func.TheVariants as func

abbrev pub key_eq : Key → Key → Bool
key_eq a b = impl.eq-value.it a b

abbrev op_eq : Op → Op → Bool
op_eq o p = op_impl.eq-value.it o p

abbrev func_eq : Func → Func → Bool
func_eq f g = func_impl.eq-value.it f g

same_op : (o p : Op) → op_eq o p ≡ true → o ≡ p
same_op op.And op.And h = refl
same_op op.Or op.Or h = refl
same_op op.Implies op.Implies h = refl
same_op op.Iff op.Iff h = refl
same_op op.Eq op.Eq h = refl
same_op op.Ne op.Ne h = refl
same_op op.Lt op.Lt h = refl
same_op op.Le op.Le h = refl
same_op op.Gt op.Gt h = refl
same_op op.Ge op.Ge h = refl
same_op op.Member op.Member h = refl
same_op o p h = absurd (false≢true h)

same_number : (n m : ℕ) → (n == m) ≡ true → n ≡ m
same_number n m h = (Decides-eqb n m).0 h

same_func : (f g : Func) → func_eq f g ≡ true → f ≡ g
same_func func.UInt func.UInt h = refl
same_func func.IsZero func.IsZero h = refl
same_func func.IsOnes func.IsOnes h = refl
same_func func.IsFeatureImplemented func.IsFeatureImplemented h = refl
same_func (func.Named n) (func.Named m) h = ap (λ k. func.Named (record { 0 = k })) (same_number n.0 m.0 h)
same_func f g h = absurd (false≢true h)

same_name : (n m : NameId) → (n.0 == m.0) ≡ true → n ≡ m
same_name n m h = ap (λ (k : ℕ). let name : NameId = record { 0 = k } in name) (same_number n.0 m.0 h)

pub same_key : (a b : Key) → key_eq a b ≡ true → a ≡ b
same_key (key.Truth true) (key.Truth true) h = refl
same_key (key.Truth true) (key.Truth false) h = absurd (false≢true h)
same_key (key.Truth false) (key.Truth true) h = absurd (false≢true h)
same_key (key.Truth false) (key.Truth false) h = refl
same_key (key.Integer m) (key.Integer n) h = ap key.Integer ((Decides-int_eq m n).0 h)
same_key (key.Bits width mask value) (key.Bits width' mask' value') h =
    let p = and_parts (width == width') ((mask == mask') && (value == value')) h in
    let q = and_parts (mask == mask') (value == value') p.1 in
    ap (λ w. key.Bits w mask value) (same_number width width' p.0) ∙ ap (λ m. key.Bits width' m value) (same_number mask mask' q.0)
    ∙ ap (λ v. key.Bits width' mask' v) (same_number value value' q.1)
same_key (key.Name m) (key.Name n) h = ap key.Name (same_name m n h)
same_key (key.Not a) (key.Not b) h = ap key.Not (same_number a b h)
same_key (key.Binary o a b) (key.Binary p a' b') h =
    let k = and_parts (op_eq o p) ((a == a') && (b == b')) h in
    let q = and_parts (a == a') (b == b') k.1 in
    ap (λ o. key.Binary o a b) (same_op o p k.0) ∙ ap (λ a. key.Binary p a b) (same_number a a' q.0) ∙ ap (λ b. key.Binary p a' b) (same_number b b' q.1)
same_key (key.Call f a) (key.Call g b) h =
    let k = and_parts (func_eq f g) (a == b) h in
    ap (λ f. key.Call f a) (same_func f g k.0) ∙ ap (λ a. key.Call g a) (same_number a b k.1)
same_key (key.Set a) (key.Set b) h = ap key.Set (same_number a b h)
same_key (key.Join a) (key.Join b) h = ap key.Join (same_number a b h)
same_key (key.Slice a b c) (key.Slice a' b' c') h =
    let k = and_parts (a == a') ((b == b') && (c == c')) h in
    let q = and_parts (b == b') (c == c') k.1 in
    ap (λ a. key.Slice a b c) (same_number a a' k.0) ∙ ap (λ b. key.Slice a' b c) (same_number b b' q.0) ∙ ap (λ c. key.Slice a' b' c) (same_number c c' q.1)
same_key key.Empty key.Empty h = refl
same_key (key.Chain a b) (key.Chain a' b') h =
    let q = and_parts (a == a') (b == b') h in
    ap (λ a. key.Chain a b) (same_number a a' q.0) ∙ ap (λ b. key.Chain a' b) (same_number b b' q.1)
same_key a b h = absurd (false≢true h)

number_refl : (n : ℕ) → (n == n) ≡ true
number_refl n = (Decides-eqb n n).1 refl

op_refl : (o : Op) → op_eq o o ≡ true
op_refl op.And = refl
op_refl op.Or = refl
op_refl op.Implies = refl
op_refl op.Iff = refl
op_refl op.Eq = refl
op_refl op.Ne = refl
op_refl op.Lt = refl
op_refl op.Le = refl
op_refl op.Gt = refl
op_refl op.Ge = refl
op_refl op.Member = refl

func_refl : (f : Func) → func_eq f f ≡ true
func_refl func.UInt = refl
func_refl func.IsZero = refl
func_refl func.IsOnes = refl
func_refl func.IsFeatureImplemented = refl
func_refl (func.Named n) = number_refl n.0

pub key_refl : (a : Key) → key_eq a a ≡ true
key_refl (key.Truth true) = refl
key_refl (key.Truth false) = refl
key_refl (key.Integer n) = (Decides-int_eq n n).1 refl
key_refl (key.Bits width mask value) =
    and_from (width == width) ((mask == mask) && (value == value)) (number_refl width) (and_from (mask == mask) (value == value) (number_refl mask) (number_refl value))
key_refl (key.Name n) = number_refl n.0
key_refl (key.Not a) = number_refl a
key_refl (key.Binary o a b) = and_from (op_eq o o) ((a == a) && (b == b)) (op_refl o) (and_from (a == a) (b == b) (number_refl a) (number_refl b))
key_refl (key.Call f a) = and_from (func_eq f f) (a == a) (func_refl f) (number_refl a)
key_refl (key.Set a) = number_refl a
key_refl (key.Join a) = number_refl a
key_refl (key.Slice a b c) = and_from (a == a) ((b == b) && (c == c)) (number_refl a) (and_from (b == b) (c == c) (number_refl b) (number_refl c))
key_refl key.Empty = refl
key_refl (key.Chain a b) = and_from (a == a) (b == b) (number_refl a) (number_refl b)
