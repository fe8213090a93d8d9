use Rattle.insn_decode.proofs.DeciderLaws.{told, found_bucket}
use Rattle.insn_decode.proofs.decider.Decider.bucket.Goals as goal

pub returns-clause-bucket : goal.returns-clause-bucket
returns-clause-bucket g c es tells =
    found_bucket c.args.w c.find_run-run.result.from c.find_run-run.result.to es c.self.inside.order.items c.deref-2.result.now c.self.inside.leaves.items c.deref-3.result.now c.deref-2.ensures.value c.deref-3.ensures.value c.self.invariant.leaves_are
    (c.find_run-run.ensures.bucket es (told c.args.self.now c.self.inside.nodes.items c.deref.result.now c.self.inside.order.items c.deref-2.result.now c.self.inside.root es c.self.view_is c.deref.ensures.value c.deref-2.ensures.value tells))
