-- Laws of names that are counted.
use Rattle.std.proofs.Common.{◌≡◌, ◌≢◌, ◌∙◌, sym, ap, ℕ, ◌+◌, ◌<◌, ◌≤◌, ◌==◌, cond, List, [], ◌∷◌, length, map, take, get_or, arith, ◌⊎◌, inl, inr, add-zero}
use Rattle.std.specs.Prelude.{slice_set}
use Rattle.std.proofs.lemmas.Bool.{cases_eq, eq-eqb, ne_eqb}
use Rattle.std.proofs.lemmas.List.{length-map, length-take-le, map-append, take_more, get_or_default, get_or-set_same, get_or-set_other}
use Rattle.std.proofs.lemmas.List.Sums.{count_by-le-length}
use Rattle.mrs_names.specs.declared.name_id.NameId.{NameId}
use Rattle.mrs_arena.proofs.NodeLaws.{count_by_push}
use Rattle.insn_tree.specs.Ends.{sakes}

abbrev pub numbers : List NameId → List ℕ
numbers names = map (λ name. name.0) names

sakes_more : (names : List NameId) (i : ℕ) (d : NameId) (id : ℕ) → i < length names → sakes (numbers (take (i + 1) names)) id ≡ sakes (numbers (take i names)) id + cond ((get_or names i d).0 == id) 1 0
sakes_more names i d id within =
    ap (λ ns. sakes (numbers ns) id) (take_more names i d within)
    ∙ ap (λ ns. sakes ns id) (map-append (λ (name : NameId). name.0) (take i names) (get_or names i d ∷ []))
    ∙ count_by_push (λ other. other == id) (numbers (take i names)) (get_or names i d).0

-- no name stands there more often than there are names
pub sakes-le : (names : List NameId) (i id : ℕ) → i ≤ length names → sakes (numbers (take i names)) id ≤ i
sakes-le names i id within =
    omega (arith, count_by-le-length (λ other. other == id) (numbers (take i names)), length-map (take i names) (λ (name : NameId). name.0), length-take-le i names within)

-- one more name is counted
pub count_step : (counts : List ℕ) (names : List NameId) (i : ℕ) (d : NameId) (v n : ℕ) → i < length names → length counts ≡ n → (get_or names i d).0 < n
    → ((id : ℕ) → id < n → get_or counts id 0 ≡ sakes (numbers (take i names)) id) → v ≡ get_or counts (get_or names i d).0 v
    → (id : ℕ) → id < n → get_or (slice_set counts (get_or names i d).0 (v + 1)) id 0 ≡ sakes (numbers (take (i + 1) names)) id
count_step counts names i d v n within long low each at id below = go (cases_eq id (get_or names i d).0)
  where
    k : ℕ
    k = (get_or names i d).0

    go : (id ≡ k) ⊎ (id ≢ k) → get_or (slice_set counts k (v + 1)) id 0 ≡ sakes (numbers (take (i + 1) names)) id
    go (inl same) =
        let value : v ≡ sakes (numbers (take i names)) id = at ∙ get_or_default counts k v 0 (omega arith) ∙ each k low ∙ ap (sakes (numbers (take i names))) (sym same) in
        ap (λ j. get_or (slice_set counts k (v + 1)) j 0) same
        ∙ get_or-set_same counts k (v + 1) 0 (omega arith)
        ∙ ap (λ m. m + 1) value
        ∙ ap (λ b. sakes (numbers (take i names)) id + cond b 1 0) (sym (eq-eqb k id (sym same)))
        ∙ sym (sakes_more names i d id within)
    go (inr apart) =
        get_or-set_other counts k id (v + 1) 0 apart
        ∙ each id below
        ∙ sym (add-zero (sakes (numbers (take i names)) id))
        ∙ ap (λ b. sakes (numbers (take i names)) id + cond b 1 0) (sym (ne_eqb k id (λ e. apart (sym e))))
        ∙ sym (sakes_more names i d id within)
