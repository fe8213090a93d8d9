use Rattle.std.proofs.Common.{◌≡◌, ◌++◌, drop, string_bytes, flat_map}
use Rattle.spec_refutation.specs.Text.{clause_line}
use Rattle.feat_proof.proofs.printing.push_clause_lines.Given as goal

abbrev pub invariant-loop-clause : goal.invariant-loop-clause
invariant-loop-clause l = string_bytes l.text ++ flat_map clause_line (drop l.clause-index l.clauses) ≡ string_bytes l.fn.text ++ flat_map clause_line l.clauses
