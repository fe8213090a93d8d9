use Rattle.std.proofs.Common.{◌∙◌, sym, ap, subst, ◌+◌, ◌++◌, ◌<◌, ◌≤◌, length, flat_map, ℕ, List, All, append_assoc, append-nil}
use Rattle.std.proofs.lemmas.List.Elements.{All-head, All-tail}
use Rattle.insn_tree.specs.Visible.{FlatField}
use Rattle.spec_lines.specs.Way.{way_path}
use Rattle.list_words.specs.Listers.{machine}
use Rattle.list_words.specs.Ways.{way_by}
use Rattle.list_words.proofs.PairLaws.{pair_at, all-pairs}
use Rattle.list_words.proofs.pairs.push_fields.Goals as goal

pub loop-field-init : goal.loop-field-init
loop-field-init c =
    let names = c.args.lister.now.names.now in
    let given = c.into_iter-field-iterator.ensures.into_iter_gives in record {
      told = ap (λ (t : List ℕ). c.args.out.now.items ++ t) (ap (flat_map (pair_at names c.args.w)) given ∙ all-pairs names c.args.w _ (way_path (machine c.args.lister.now) (way_by c.args.path)) c.shown-field-items.ensures.fields);
      within = subst (All (λ (f : FlatField). f.start + f.width ≤ 32)) (sym given) c.shown-field-items.ensures.within;
      held = subst (All (λ (f : FlatField). f.name < length names)) (sym given) c.shown-field-items.ensures.held;
    }

pub push_pair-requires-clause-within : goal.push_pair-requires-clause-within
push_pair-requires-clause-within c = All-head (λ (f : FlatField). f.start + f.width ≤ 32) _ _ (subst (All (λ (f : FlatField). f.start + f.width ≤ 32)) c.in-Some.ensures.steps c.loop-field.invariant.within)

pub push_pair-requires-clause-held : goal.push_pair-requires-clause-held
push_pair-requires-clause-held c = All-head (λ (f : FlatField). f.name < length c.args.lister.now.names.now) _ _ (subst (All (λ (f : FlatField). f.name < length c.args.lister.now.names.now)) c.in-Some.ensures.steps c.loop-field.invariant.held)

pub loop-field-preserved : goal.loop-field-preserved
loop-field-preserved c =
    let names = c.args.lister.now.names.now in
    let left = flat_map (pair_at names c.args.w) c.next.new.self in record {
      told =
          ap (λ (t : List ℕ). t ++ left) c.in_ok-push_pair.ensures
          ∙ append_assoc c.loop-field.out.items _ left
          ∙ ap (λ (fs : List FlatField). c.loop-field.out.items ++ flat_map (pair_at names c.args.w) fs) (sym c.in-Some.ensures.steps)
          ∙ c.loop-field.invariant.told;
      within = All-tail (λ (f : FlatField). f.start + f.width ≤ 32) _ _ (subst (All (λ (f : FlatField). f.start + f.width ≤ 32)) c.in-Some.ensures.steps c.loop-field.invariant.within);
      held = All-tail (λ (f : FlatField). f.name < length names) _ _ (subst (All (λ (f : FlatField). f.name < length names)) c.in-Some.ensures.steps c.loop-field.invariant.held);
    }

pub returns : goal.returns
returns c =
    sym (append-nil c.loop-field.out.items)
    ∙ ap (λ (fs : List FlatField). c.loop-field.out.items ++ flat_map (pair_at c.args.lister.now.names.now c.args.w) fs) (sym c.in-None.ensures.steps.0)
    ∙ c.loop-field.invariant.told
