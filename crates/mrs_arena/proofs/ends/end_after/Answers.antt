use Rattle.std.proofs.Common.{◌∙◌, sym, ap, map, None, arith}
use Rattle.std.proofs.lemmas.List.{length-map, get_or-map}
use Rattle.mrs_arena.specs.Paths.{is_outside}
use Rattle.mrs_arena.specs.Inside.{parent_of}
use Rattle.mrs_arena.proofs.EndLaws.{end_past-start, end_past-all, end_past-outside}
use Rattle.mrs_arena.proofs.FillLaws.{IsPassed-subtree}
use Rattle.mrs_arena.proofs.ends.end_after.Goals as goal
use Rattle.mrs_arena.proofs.ends.end_after.Goals.{then-below-test+else-not-is_outside, else-below-test}

pub below-init : goal.below-init
below-init c = record { after = omega arith; within = omega arith; past = end_past-start (map parent_of c.args.nodes.now) c.args.n }

pub below-smaller : goal.below-smaller
below-smaller c =
    let passed = IsPassed-subtree c.args.nodes.now c.args.n c.below.end _ c.requires.behind c.below.invariant.after c.below-test.true (sym c.if-not-is_outside.ensures) c.below.invariant.past in
    let further = passed.further in
    let within = passed.within in
    omega arith

pub below-preserved : goal.below-preserved
below-preserved c =
    let passed = IsPassed-subtree c.args.nodes.now c.args.n c.below.end _ c.requires.behind c.below.invariant.after c.below-test.true (sym c.if-not-is_outside.ensures) c.below.invariant.past in
    let further = passed.further in
    record { after = omega arith; within = passed.within; past = passed.past }

pub returns : goal.returns
returns c =
    elim c.below-test.branch [
      | then-below-test+else-not-is_outside w ↦
          let parents = map parent_of c.args.nodes.now in
          let out = ap (is_outside c.args.n) (get_or-map parent_of c.args.nodes.now c.below.end _ None w.below-test.true) ∙ sym w.if-not-is_outside.ensures in
          sym (end_past-outside parents c.args.n c.below.end (omega (arith, w.below-test.true, length-map c.args.nodes.now parent_of)) out) ∙ c.below.invariant.past
      | else-below-test w ↦ sym (end_past-all (map parent_of c.args.nodes.now) c.args.n c.below.end (omega (arith, length-map c.args.nodes.now parent_of))) ∙ c.below.invariant.past
    ]
