use Rattle.std.proofs.Common.{refl, sym, ap}
use Rattle.spec_run.specs.End.{Insns}
use Rattle.spec_run.specs.Opening.{by_walk}
use Rattle.mrs_arena.proofs.TreePaths.{paths_of_tree}
use Rattle.mrs_arena.proofs.AliasPaths.{aliases_of_tree}
use Rattle.instructions_reader.specs.Release.{arena_counts}
use Rattle.release_opening.proofs.opening_set.read_value.Goals as goal

pub returns-in-Ok-clause-reads : goal.returns-in-Ok-clause-reads
returns-in-Ok-clause-reads c =
    let names = c.read_instructions.new.names in
    let a = c.in-Ok.arena in
    let read = c.in-Ok.ensures.read in
    record {
      value = (read.set, arena_counts names a);
      is = ap (by_walk Insns) read.walk;
      stands = record {
        names_are = refl;
        tree = read.tree;
        paths = sym (paths_of_tree names a.nodes read.set read.tree read.shaped.shaped);
        aliases = sym (aliases_of_tree names a.nodes read.set read.tree read.shaped);
        held = read.held;
      };
    }
