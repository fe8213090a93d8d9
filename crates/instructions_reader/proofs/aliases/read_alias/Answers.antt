use Rattle.mrs_walk.specs.Here.{spot_of}
use Rattle.instructions_reader.proofs.AliasLaws.{put_some, alias_returns}
use Rattle.mrs_names.proofs.PlaceLaws.{IsExtended-trans}
use Rattle.instructions_reader.proofs.aliases.read_alias.Goals as goal

pub read_preferred-requires : goal.read_preferred-requires
read_preferred-requires c =
    let e = c.in_ok-read_own.ensures.walk in
    put_some c.args.draft.now c.read_own.new.draft c.args.parent.0 c.in_ok-read_own.field-0.0 e.value e.stands

pub returns-clause-walk : goal.returns-clause-walk
returns-clause-walk c =
    alias_returns c.read_preferred.result c.args.draft.now c.read_own.new.draft c.read_preferred.new.draft c.args.parent.0 c.in_ok-read_own.field-0.0 (spot_of c.args.here.now) c.in_ok-read_own.ensures.walk c.read_preferred.ensures.walk

-- ---- names keep their numbers

pub returns-in_err-read_own-clause-kept : goal.returns-in_err-read_own-clause-kept
returns-in_err-read_own-clause-kept c = c.in_err-read_own.ensures.kept

pub returns-clause-kept : goal.returns-clause-kept
returns-clause-kept c = IsExtended-trans c.args.draft.now.names c.read_own.new.draft.names c.read_preferred.new.draft.names c.in_ok-read_own.ensures.kept c.read_preferred.ensures.kept
