use Rattle.spec_registers.specs.View.{shown}
use Rattle.spec_registers.proofs.ViewLaws.{pieces_recombine}
use Rattle.spec_registers.proofs.views_recombine.Goals as goal

pub returns : goal.returns
returns c = λ fs g value. pieces_recombine value fs.width (shown g fs)
