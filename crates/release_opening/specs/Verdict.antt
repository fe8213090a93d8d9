-- The line of a verdict of the checker.
use Rattle.std.specs.Prelude.{ℕ, List}
use Rattle.spec_lines.specs.LogLine.{refuted_line, fails_line}
use Rattle.feat_proof.specs.declared.verdicts.Verdict.{Verdict}
use Rattle.feat_proof.specs.declared.verdicts.Verdict.TheVariants as verdict

-- on a log of so many steps
abbrev pub line_by : Verdict → ℕ → List ℕ
line_by verdict.Refuted steps = refuted_line steps
line_by (verdict.Fails step) steps = fails_line step
