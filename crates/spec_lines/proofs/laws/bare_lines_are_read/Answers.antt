use Rattle.spec_lines.proofs.ReadBackLaws.{bare_lines_are_read}
use Rattle.spec_lines.proofs.ReadableLaws.{sound_paths_are_readable, sound_machines_are_readable}
use Rattle.spec_lines.proofs.StreamsBack.{bare_streams_are_read}
use Rattle.spec_lines.proofs.laws.bare_lines_are_read.Goals as goal

pub returns : goal.returns
returns c = record { line = bare_lines_are_read; stream = bare_streams_are_read; readable = sound_paths_are_readable; machines = sound_machines_are_readable }
