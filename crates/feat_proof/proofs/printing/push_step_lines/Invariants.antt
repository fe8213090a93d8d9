use Rattle.std.proofs.Common.{◌≡◌, ◌++◌, drop, string_bytes, flat_map}
use Rattle.spec_refutation.specs.Text.{step_line}
use Rattle.feat_proof.proofs.printing.push_step_lines.Given as goal

abbrev pub invariant-loop-step : goal.invariant-loop-step
invariant-loop-step l = string_bytes l.text ++ flat_map step_line (drop l.step-index l.steps) ≡ string_bytes l.fn.text ++ flat_map step_line l.steps
