use Rattle.std.proofs.lemmas.Int.{to_z-of_z}
use Rattle.std.specs.Int.{w32}
use Rattle.feat_proof.proofs.Sets.{inserted}
use Rattle.feat_proof.proofs.literal_set.add.Goals as goal

pub returns : goal.returns
returns c = let f = c.ranges.number in let h = simp (to_z-of_z w32 c.args.number f) at c.in_ok-insert.ensures.updates.0 in inserted c.args.numbers.now.keys c.insert.new.self.keys c.args.number h
