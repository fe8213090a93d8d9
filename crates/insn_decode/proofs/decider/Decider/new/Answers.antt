use Rattle.std.proofs.Common.{◌∙◌, ap, subst, List, map}
use Rattle.std.proofs.lemmas.Result.{IfOk-weaker}
use Rattle.spec_decode.specs.Bucket.{Encoding}
use Rattle.insn_decode.specs.declared.member.Member.{Member}
use Rattle.insn_decode.specs.Members.{encoding_of}
use Rattle.insn_decode.specs.Deciders.{Tells}
use Rattle.insn_decode.proofs.decider.Decider.new.Goals as goal

pub returns : goal.returns
returns c = IfOk-weaker c.over.result _ _ (λ d tells. record {
  tells = λ names. subst (λ (es : List Encoding). Tells d es) (ap (λ (ms : List Member). map encoding_of ms) c.deref.ensures.value ∙ c.in_ok-members.ensures.members names) tells;
  within = c.in_ok-members.ensures.within;
}) c.over.ensures
