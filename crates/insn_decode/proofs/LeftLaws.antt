-- The leaves that are left to an iterator over those found.
use Rattle.std.proofs.Common.{◌≡◌, ◌∙◌, sym, ap, refl, ℕ, suc, ◌+◌, ◌<◌, List, [], ◌∷◌, length, map, drop, get_or, arith, drop-cons, Option, All}
use Rattle.std.proofs.lemmas.List.Elements.{All-head, All-tail}
use Rattle.spec_expressions.specs.Truth as spec
use Rattle.ast_eval.specs.Views.{truth_of}
use Rattle.ast_eval.specs.declared.kleene.Truth.{Truth}
use Rattle.insn_tree.specs.declared.leaf_id.LeafId.{LeafId}
use Rattle.insn_decode.specs.declared.member.Member.{Member}
use Rattle.insn_decode.specs.Members.{encoding_of}
use Rattle.spec_decode.specs.Found.{with_leaf}
use Rattle.spec_decode.specs.Bucket.{Encoding, found_among}
use Rattle.mrs_arena.specs.Placed.{text_of}
use Rattle.ast_eval.specs.Choices.{Choices, configuration_of}
use Rattle.insn_tree.specs.Trees.{TreeParts, tree_paths}
use Rattle.insn_tree.specs.Verdicts.{AreHeldBy}
use Rattle.insn_tree.proofs.OwnTextLaws.{leaf_verdict_is}
use Rattle.insn_decode.specs.Judged.{IsMemberOf}
use Rattle.insn_decode.specs.Left.{with_item, before_others, found_left, candidate_of}
use Rattle.insn_tree.specs.OwnTexts.{leaf_verdict}
use Rattle.insn_decode.proofs.MemberLaws.{member_leaf}

-- one more leaf is looked at
pub left_step : (tree : TreeParts) (c : Choices) (w : ℕ) (members : List Member) (at : ℕ) (d : Member) (t : Truth) (answer : Option (LeafId × Truth)) → at < length members
    → truth_of t ≡ leaf_verdict tree c w (encoding_of (get_or members at d)).leaf → ((others : List (LeafId × Truth)) → with_item (get_or members at d).leaf.0 (truth_of t) others ≡ before_others answer others)
    → found_left tree c w (map encoding_of (drop at members)) ≡ before_others answer (found_left tree c w (map encoding_of (drop (at + 1) members)))
left_step tree c w members at d t answer lt told put =
    let m : Member = get_or members at d in
    let rest : List (LeafId × Truth) = found_left tree c w (map encoding_of (drop (at + 1) members)) in
    let here : drop at members ≡ m ∷ drop (at + 1) members = drop-cons members at d lt ∙ ap (λ (k : ℕ). m ∷ drop k members) (let z : suc at ≡ at + 1 = omega arith in z) in
    ap (λ (l : List Member). found_left tree c w (map encoding_of l)) here
    ∙ ap (λ u. with_item (encoding_of m).leaf u rest) (sym told)
    ∙ ap (λ (k : ℕ). with_item k (truth_of t) rest) (member_leaf m)
    ∙ put rest

put_same : (k : ℕ) (t : spec.Truth) (rest : List (LeafId × Truth)) → map candidate_of (with_item k t rest) ≡ with_leaf k t (map candidate_of rest)
put_same k spec.Yes rest = refl
put_same k spec.No rest = refl
put_same k spec.Open rest = refl

-- those left are those found among these leaves of the tree, by the texts of any names that are held
pub left_found : (names : List (List ℕ)) (tree : TreeParts) (c : Choices) (w : ℕ) → AreHeldBy names tree.nodes c → (es : List Encoding) → All (IsMemberOf tree) es
    → map candidate_of (found_left tree c w es) ≡ found_among es (tree_paths names tree) (configuration_of (text_of names) c) w
left_found names tree c w held [] all = refl
left_found names tree c w held (e ∷ es) all =
    put_same e.leaf (leaf_verdict tree c w e.leaf) (found_left tree c w es)
    ∙ ap (with_leaf e.leaf (leaf_verdict tree c w e.leaf)) (left_found names tree c w held es (All-tail (IsMemberOf tree) e es all))
    ∙ ap (λ t. with_leaf e.leaf t (found_among es (tree_paths names tree) (configuration_of (text_of names) c) w))
    (sym (leaf_verdict_is names tree c w e.leaf held.distinct held.nodes_are held.parameters (All-head (IsMemberOf tree) e es all).leaf))
