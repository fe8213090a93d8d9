use Rattle.std.proofs.Common.{◌≡◌, ◌∙◌, sym, ap, subst, ◌++◌, append_assoc, List, ℕ}
use Rattle.std.specs.Prelude.{OnOk, flat_map}
use Rattle.spec_decode.specs.Found.{found}
use Rattle.spec_lines.specs.FullLine.{candidate}
use Rattle.spec_lines.proofs.EncodedLaws.{lone_is}
use Rattle.list_words.specs.Listers.{machine}
use Rattle.list_words.proofs.FoundLaws.{several_told}
use Rattle.list_words.proofs.full.push_leaves.Goals as goal

pub push_lone-requires-clause-leaf : goal.push_lone-requires-clause-leaf
push_lone-requires-clause-leaf c = (lone_is (machine c.args.lister.now).paths (machine c.args.lister.now).configuration c.args.word _ c.in-Lone.ensures).within

pub returns-in_ok-extend_from_slice-in-Several : goal.returns-in_ok-extend_from_slice-in-Several
returns-in_ok-extend_from_slice-in-Several c =
    let paths = (machine c.args.lister.now).paths in
    let several = found paths (machine c.args.lister.now).configuration c.args.word in
    let told = flat_map (candidate paths) several in
    let e = ap (λ (l : List ℕ). l ++ told) c.in_ok-extend_from_slice-in-Several.ensures.items ∙ append_assoc c.args.out.now.items _ told ∙ ap (λ (l : List ℕ). c.args.out.now.items ++ l) (sym (several_told (machine c.args.lister.now) c.args.word several c.in-Several.ensures)) in
    subst (λ (l : List ℕ). OnOk c.push_candidates.result (c.push_candidates.new.out.items ≡ l)) e c.push_candidates.ensures
