use Rattle.std.proofs.Common.{length, drop, ◌-◌, ◌≡◌, ◌+◌, ◌≤◌, All}
use Rattle.insn_encode.specs.Shown.{shown_among}
use Rattle.insn_encode.proofs.shown_fields.ShownIterator.next.Given as goal

-- the fields that are passed over are not shown
abbrev pub invariant-fields : goal.invariant-fields
invariant-fields l = record {
  left : shown_among l.self-inside.layout (drop l.self-inside.at l.self-inside.fields.now) ≡ l.fn.self;
  fit : All (λ f. f.range.start + f.range.width ≤ 32) l.self-inside.fields.now;
  within : l.self-inside.at ≤ length l.self-inside.fields.now;
}

abbrev pub decreases-fields : goal.decreases-fields
decreases-fields l = length l.self-inside.fields.now - l.self-inside.at
