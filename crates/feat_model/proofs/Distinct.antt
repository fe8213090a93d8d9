-- Names whose numbers are distinct are distinct.
use Rattle.std.proofs.Common.{◌≡◌, ◌≢◌, ℕ, List, map, nat_eq, sym, ap, ◌∙◌, subst, arith}
use Rattle.std.specs.Prelude.{AllPairs}
use Rattle.std.specs.List.{IsDistinct}
use Rattle.std.proofs.lemmas.Bool.Decides.{Decides-eqb}
use Rattle.std.proofs.lemmas.List.{length-map}
use Rattle.std.proofs.Math.ListN.{get_or-map}
use Rattle.std.proofs.lemmas.Map.Made.{AllPairs-from_IsDistinct}
use Rattle.mrs_names.specs.declared.name_id.NameId.{NameId}

pub distinct_names : (names : List NameId) (numbers : List ℕ) → map (λ (name : NameId). name.0) names ≡ numbers → IsDistinct nat_eq numbers → AllPairs (λ first second. first ≢ second) names
distinct_names names numbers are distinct i j d lt within same =
    let P : List ℕ → Type 0 = λ ns. AllPairs (λ (x y : ℕ). x ≢ y) ns in
    let pairs = subst P (sym are) (AllPairs-from_IsDistinct Decides-eqb numbers distinct) in
    pairs i j d.0 lt (omega (arith, within, length-map names (λ (name : NameId). name.0)))
    (get_or-map (λ (name : NameId). name.0) names i d ∙ ap (λ (name : NameId). name.0) same ∙ sym (get_or-map (λ (name : NameId). name.0) names j d))
