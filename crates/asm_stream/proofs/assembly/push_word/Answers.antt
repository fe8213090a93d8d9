use Rattle.std.proofs.Common.{◌∙◌, sym, refl}
use Rattle.list_words.specs.Listers.{machine}
use Rattle.asm_stream.proofs.LineLaws.{fault_gives}
use Rattle.asm_stream.proofs.assembly.push_word.Goals as goal

pub returns-in-Err : goal.returns-in-Err
returns-in-Err c =
    let r = c.in-Err.ensures in
    let some = sym c.is_empty.ensures ∙ c.if-is_empty.false in (
      record { number = c.args.number; fault = r.fault },
      record { number_is = refl; fault_is = r.fault_is },
      fault_gives c.args.number r.fault (machine c.args.lister.now) c.args.line.now some r.is,
      refl,
    )
