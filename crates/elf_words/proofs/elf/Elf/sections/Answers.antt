use Rattle.std.proofs.lemmas.Bool.{ne_eqb}
use Rattle.elf_words.proofs.WithinLaws.{chosen_within}
use Rattle.elf_words.proofs.elf.Elf.sections.Goals as goal

pub new-requires-clause-sections : goal.new-requires-clause-sections
new-requires-clause-sections c = chosen_within c.self.inside.file.now c.half_at-count.result c.half_at-count.ensures (ne_eqb c.half_at-count.result 0 c.if-count-eq0.false) c.self.invariant
