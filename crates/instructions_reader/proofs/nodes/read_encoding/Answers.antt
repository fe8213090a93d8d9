use Rattle.std.proofs.Common.{ap, sym, None, codes}
use Rattle.spec_walk.specs.Walk.{gives}
use Rattle.spec_instructions.specs.Encodeset.{encodeset}
use Rattle.mrs_walk.specs.Here.{spot_of}
use Rattle.mrs_walk.proofs.AnswerLaws.{optional-absent, Puts-there}
use Rattle.schema_draft.specs.Drafted.{counts, last_named}
use Rattle.schema_draft.proofs.PlacedLaws.{with_items-none}
use Rattle.instructions_reader.proofs.nodes.read_encoding.Goals as goal

pub returns-in-None-clause-walk : goal.returns-in-None-clause-walk
returns-in-None-clause-walk c =
    let old = c.args.draft.now in record {
      value = None;
      walked = ap (λ w. gives w (counts old)) (optional-absent (codes "encoding") (encodeset (last_named old.nodes)) (spot_of c.args.here.now) c.in-None.ensures);
      stands = sym (with_items-none old.nodes);
    }

pub returns-in-Some-clause-walk : goal.returns-in-Some-clause-walk
returns-in-Some-clause-walk c =
    Puts-there c.read_encodeset.result (codes "encoding") (encodeset (last_named c.args.draft.now.nodes)) (spot_of c.args.here.now) (spot_of c.in-Some.set) _ _ _ _ c.in-Some.ensures (λ a x h. h) c.read_encodeset.ensures.walk
