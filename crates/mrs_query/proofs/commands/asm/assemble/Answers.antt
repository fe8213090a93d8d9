use Rattle.mrs_query.proofs.AssembledLaws.{assembly_ran, assembly_text}
use Rattle.mrs_query.proofs.commands.asm.assemble.Goals as goal

pub returns-clause-ran : goal.returns-clause-ran
returns-clause-ran g c =
    rw (← c.lister-lister.ensures.machine) (assembly_ran c.lister-lister.result c.args.max _ _ _ _ c.assembled.result c.assemble_stream-how.result c.assemble_stream-how.ensures c.assembled.ensures.tells)

pub returns-clause-text : goal.returns-clause-text
returns-clause-text g c = assembly_text c.lister-lister.result c.args.max _ _ _ _ c.assembled.result c.assemble_stream-how.result c.assemble_stream-how.ensures c.assembled.ensures.tells
