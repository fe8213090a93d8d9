use Rattle.std.proofs.Common.{◌≡◌, ◌<◌, ℕ, length, map, take, get_or}
use Rattle.insn_tree.specs.Ends.{sakes}
use Rattle.insn_tree.proofs.namesakes.count_names.Given as goal

-- the names of the turns before are counted
abbrev pub invariant-loop-name : goal.invariant-loop-name
invariant-loop-name l = record {
  long : length l.counts.items ≡ l.count;
  each : (id : ℕ) → id < l.count → get_or l.counts.items id 0 ≡ sakes (map (λ name. name.0) (take l.name-index l.names)) id;
}
