use Rattle.std.proofs.Common.{◌<◌, ◌≤◌, ◌++◌, length, refl, ap, arith}
use Rattle.spec_lines.specs.LineFault.{Long}
use Rattle.list_words.specs.Listers.{machine}
use Rattle.asm_stream.proofs.Steps.{goes_on, too_long}
use Rattle.asm_stream.proofs.assembly.go_on.Goals as goal

pub returns-then-len-gt-LINE_LIMIT : goal.returns-then-len-gt-LINE_LIMIT
returns-then-len-gt-LINE_LIMIT c =
    let long : 65536 < length (c.args.assembly.now.left.items ++ c.args.bytes.now) = omega (arith, ap length c.in_ok-extend_from_slice.ensures.items) in (
      record { number = c.args.assembly.now.number; fault = record { at = 65536; why = Long } },
      record { number_is = refl; fault_is = record { at = refl; why = refl } },
      λ done before so_far. too_long (machine c.args.lister.now) done _ _ _ so_far c.args.bytes.now c.requires long,
    )

pub returns : goal.returns
returns c = λ done before so_far.
    let short : length (c.args.assembly.now.left.items ++ c.args.bytes.now) ≤ 65536 = omega (arith, ap length c.in_ok-extend_from_slice.ensures.items) in
    rw c.in_ok-extend_from_slice.ensures.items (goes_on (machine c.args.lister.now) done _ _ _ so_far c.args.bytes.now c.requires short)
