-- Keys that stand for one term are one, where no two terms are equal.
use Rattle.std.proofs.Common.{◌≡◌, ℕ, List, Some, slice_get, refl, sym, ap, ◌∙◌, inl, inr}
use Rattle.bit_pattern.specs.Digits.{digits_below}
use Rattle.bit_pattern.specs.Views.{digits_of}
use Rattle.bit_pattern.proofs.ValueLaws.{SameNumbers, SameNumbers-from}
use Rattle.mrs_arena.specs.declared.op.Op.{Op}
use Rattle.mrs_arena.specs.declared.op.Op.TheVariants as op
use Rattle.mrs_arena.specs.declared.func.Func.{Func}
use Rattle.mrs_arena.specs.declared.func.Func.TheVariants as func
use Rattle.mrs_arena.specs.Expressions.{op_of, function_by, itself}
use Rattle.mrs_names.specs.declared.name_id.NameId.{NameId}
use Rattle.expr_classes.specs.declared.key.Key.{Key}
use Rattle.expr_classes.specs.declared.key.Key.TheVariants as key
use Rattle.expr_classes.specs.Terms.{Term, expr_in, list_in, term_of, IsExpr, IsExprs, IsPattern, HasTerms, AreApart}

-- parts of one meaning have one number
expr_same : (terms : List Term) → AreApart terms → (p q : ℕ) → IsExpr terms p → IsExpr terms q → expr_in (slice_get terms p) ≡ expr_in (slice_get terms q) → p ≡ q
expr_same terms apart p q (e, ep) (f, fq) same =
    let one : e ≡ f = sym (ap expr_in ep) ∙ same ∙ ap expr_in fq in
    apart p q (inl e) ep (fq ∙ ap (λ g. Some (inl g)) (sym one))

list_same : (terms : List Term) → AreApart terms → (p q : ℕ) → IsExprs terms p → IsExprs terms q → list_in (slice_get terms p) ≡ list_in (slice_get terms q) → p ≡ q
list_same terms apart p q (e, ep) (f, fq) same =
    let one : e ≡ f = sym (ap list_in ep) ∙ same ∙ ap list_in fq in
    apart p q (inr e) ep (fq ∙ ap (λ g. Some (inr g)) (sym one))

op_same : (o p : Op) → op_of o ≡ op_of p → o ≡ p
op_same op.And op.And h = refl
op_same op.Or op.Or h = refl
op_same op.Implies op.Implies h = refl
op_same op.Iff op.Iff h = refl
op_same op.Eq op.Eq h = refl
op_same op.Ne op.Ne h = refl
op_same op.Lt op.Lt h = refl
op_same op.Le op.Le h = refl
op_same op.Gt op.Gt h = refl
op_same op.Ge op.Ge h = refl
op_same op.Member op.Member h = refl
op_same o p h = absurd cc

func_same : (f g : Func) → function_by itself f ≡ function_by itself g → f ≡ g
func_same func.UInt func.UInt h = refl
func_same func.IsZero func.IsZero h = refl
func_same func.IsOnes func.IsOnes h = refl
func_same func.IsFeatureImplemented func.IsFeatureImplemented h = refl
func_same (func.Named m) (func.Named n) h = let e : m.0 ≡ n.0 = cc in ap (λ (k : ℕ). let name : NameId = record { 0 = k } in func.Named name) e
func_same f g h = absurd cc

bits_same : (w m v w' m' v' : ℕ) → IsPattern w m v → IsPattern w' m' v' → digits_below m v w ≡ digits_below m' v' w' → key.Bits w m v ≡ key.Bits w' m' v'
bits_same w m v w' m' v' p q h =
    let left : digits_of p.pattern ≡ digits_below m v w = ap (λ n. digits_below n p.pattern.value p.pattern.width) p.mask_is ∙ ap (λ n. digits_below m n p.pattern.width) p.value_is ∙ ap (digits_below m v) p.width_is in
    let right : digits_of q.pattern ≡ digits_below m' v' w' = ap (λ n. digits_below n q.pattern.value q.pattern.width) q.mask_is ∙ ap (λ n. digits_below m' n q.pattern.width) q.value_is ∙ ap (digits_below m' v') q.width_is in
    let same : SameNumbers p.pattern q.pattern = SameNumbers-from p.pattern q.pattern (left ∙ h ∙ sym right) in
    ap (λ n. key.Bits n m v) (sym p.width_is ∙ same.width ∙ q.width_is)
    ∙ ap (λ n. key.Bits w' n v) (sym p.mask_is ∙ same.mask ∙ q.mask_is)
    ∙ ap (λ n. key.Bits w' m' n) (sym p.value_is ∙ same.value ∙ q.value_is)

pub injective : (terms : List Term) → AreApart terms → (k l : Key) → HasTerms terms k → HasTerms terms l → term_of terms k ≡ term_of terms l → k ≡ l
injective terms apart (key.Truth a) (key.Truth b) i j h = cc
injective terms apart (key.Integer a) (key.Integer b) i j h = cc
injective terms apart (key.Bits w m v) (key.Bits w' m' v') i j h = let e : digits_below m v w ≡ digits_below m' v' w' = cc in bits_same w m v w' m' v' i j e
injective terms apart (key.Name m) (key.Name n) i j h = let e : m.0 ≡ n.0 = cc in ap (λ (k : ℕ). let name : NameId = record { 0 = k } in key.Name name) e
injective terms apart (key.Not a) (key.Not b) i j h =
    let e : expr_in (slice_get terms a) ≡ expr_in (slice_get terms b) = cc in
    ap key.Not (expr_same terms apart a b i j e)
injective terms apart (key.Binary o a b) (key.Binary p a' b') i j h =
    let f : op_of o ≡ op_of p = cc in
    let d : expr_in (slice_get terms a) ≡ expr_in (slice_get terms a') = cc in
    let e : expr_in (slice_get terms b) ≡ expr_in (slice_get terms b') = cc in
    ap (λ o. key.Binary o a b) (op_same o p f) ∙ ap (λ a. key.Binary p a b) (expr_same terms apart a a' i.0 j.0 d) ∙ ap (λ b. key.Binary p a' b) (expr_same terms apart b b' i.1 j.1 e)
injective terms apart (key.Call f a) (key.Call g b) i j h =
    let d : function_by itself f ≡ function_by itself g = cc in
    let e : list_in (slice_get terms a) ≡ list_in (slice_get terms b) = cc in
    ap (λ f. key.Call f a) (func_same f g d) ∙ ap (λ a. key.Call g a) (list_same terms apart a b i j e)
injective terms apart (key.Set a) (key.Set b) i j h =
    let e : list_in (slice_get terms a) ≡ list_in (slice_get terms b) = cc in
    ap key.Set (list_same terms apart a b i j e)
injective terms apart (key.Join a) (key.Join b) i j h =
    let e : list_in (slice_get terms a) ≡ list_in (slice_get terms b) = cc in
    ap key.Join (list_same terms apart a b i j e)
injective terms apart (key.Slice a b c) (key.Slice a' b' c') i j h =
    let d : expr_in (slice_get terms a) ≡ expr_in (slice_get terms a') = cc in
    let e : expr_in (slice_get terms b) ≡ expr_in (slice_get terms b') = cc in
    let f : expr_in (slice_get terms c) ≡ expr_in (slice_get terms c') = cc in
    ap (λ a. key.Slice a b c) (expr_same terms apart a a' i.0 j.0 d) ∙ ap (λ b. key.Slice a' b c) (expr_same terms apart b b' i.1.0 j.1.0 e)
    ∙ ap (λ c. key.Slice a' b' c) (expr_same terms apart c c' i.1.1 j.1.1 f)
injective terms apart key.Empty key.Empty i j h = refl
injective terms apart (key.Chain a b) (key.Chain a' b') i j h =
    let d : expr_in (slice_get terms a) ≡ expr_in (slice_get terms a') = cc in
    let e : list_in (slice_get terms b) ≡ list_in (slice_get terms b') = cc in
    ap (λ a. key.Chain a b) (expr_same terms apart a a' i.0 j.0 d) ∙ ap (λ b. key.Chain a' b) (list_same terms apart b b' i.1 j.1 e)
injective terms apart k l i j h = absurd cc
