use Rattle.std.proofs.Common.{◌≡◌, ◌∙◌, sym, ap, subst, ◌++◌, ◌<◌, length, flat_map, map, ℕ, List, All, append_assoc, append-nil}
use Rattle.std.proofs.lemmas.List.Elements.{All-head, All-tail}
use Rattle.ast_eval.specs.declared.kleene.Truth.{Truth}
use Rattle.insn_tree.specs.declared.leaf_id.LeafId.{LeafId}
use Rattle.insn_decode.specs.Left.{candidate_of}
use Rattle.spec_decode.specs.Found.{Candidate, found}
use Rattle.spec_lines.specs.FullLine.{candidate}
use Rattle.list_words.specs.Listers.{machine}
use Rattle.list_words.proofs.FoundLaws.{all_within}
use Rattle.list_words.proofs.full.push_candidates.Goals as goal

given : (c : goal.After-into_iter-leaf-iterator) → map candidate_of c.into_iter-leaf-iterator.result ≡ found (machine c.args.lister.now).paths (machine c.args.lister.now).configuration c.args.word
given c = ap (λ (is : List (LeafId × Truth)). map candidate_of is) c.into_iter-leaf-iterator.ensures.into_iter_gives ∙ c.candidates-leaf-items.ensures

pub loop-leaf-init : goal.loop-leaf-init
loop-leaf-init c =
    let paths = (machine c.args.lister.now).paths in (
      ap (λ (cs : List Candidate). c.args.out.now.items ++ flat_map (candidate paths) cs) (given c),
      all_within paths (machine c.args.lister.now).configuration c.args.word _ (given c),
    )

pub push_candidate-requires-clause-leaf : goal.push_candidate-requires-clause-leaf
push_candidate-requires-clause-leaf c =
    let paths = (machine c.args.lister.now).paths in
    let all = subst (λ (is : List (LeafId × Truth)). All (λ (d : Candidate). d.leaf < length paths) (map candidate_of is)) (c.in-Some.ensures.steps) c.loop-leaf.invariant.1 in
    All-head (λ (d : Candidate). d.leaf < length paths) _ _ all

pub loop-leaf-preserved : goal.loop-leaf-preserved
loop-leaf-preserved c =
    let paths = (machine c.args.lister.now).paths in
    let all = subst (λ (is : List (LeafId × Truth)). All (λ (d : Candidate). d.leaf < length paths) (map candidate_of is)) (c.in-Some.ensures.steps) c.loop-leaf.invariant.1 in
    let left = flat_map (candidate paths) (map candidate_of c.next.new.self) in (
      ap (λ (t : List ℕ). t ++ left) c.in_ok-push_candidate.ensures
          ∙ append_assoc c.loop-leaf.out.items _ left
          ∙ ap (λ (is : List (LeafId × Truth)). c.loop-leaf.out.items ++ flat_map (candidate paths) (map candidate_of is)) (sym c.in-Some.ensures.steps)
          ∙ c.loop-leaf.invariant.0,
      All-tail (λ (d : Candidate). d.leaf < length paths) _ _ all,
    )

pub returns : goal.returns
returns c =
    sym (append-nil c.loop-leaf.out.items)
    ∙ ap (λ (is : List (LeafId × Truth)). c.loop-leaf.out.items ++ flat_map (candidate (machine c.args.lister.now).paths) (map candidate_of is)) (sym c.in-None.ensures.steps.0)
    ∙ c.loop-leaf.invariant.0
