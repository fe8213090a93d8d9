use Rattle.std.proofs.Common.{not, map}
use Rattle.bit_pattern.specs.Marks.{marks_of}
use Rattle.bit_pattern.specs.Views.{digits_of}
use Rattle.bit_pattern.proofs.MarkLaws.{pattern_holds-slice}
use Rattle.mrs_arena.proofs.item.Item.holds.Goals as goal

pub returns : goal.returns
returns c =
    let it = c.args.self.now in
    rw (c.holds.ensures, c.fixed.ensures.digits, c.from.ensures) (pattern_holds-slice (digits_of it.pattern) (map not (marks_of it.pattern.width it.should)) c.args.w it.start)
