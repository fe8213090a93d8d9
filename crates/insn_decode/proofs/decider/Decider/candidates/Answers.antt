use Rattle.std.proofs.Common.{◌∙◌, ap, map, List}
use Rattle.mrs_arena.specs.Placed.{text_of}
use Rattle.ast_eval.specs.Choices.{configuration_of}
use Rattle.ast_eval.specs.declared.kleene.Truth.{Truth}
use Rattle.insn_tree.specs.declared.leaf_id.LeafId.{LeafId}
use Rattle.insn_decode.specs.Members.{encoding_of}
use Rattle.insn_decode.specs.Left.{candidate_of}
use Rattle.insn_decode.proofs.BucketMembers.{members_of_tree, all_found}
use Rattle.insn_decode.proofs.LeftLaws.{left_found}
use Rattle.insn_decode.proofs.decider.Decider.candidates.Goals as goal

pub new-requires : goal.new-requires
new-requires c = members_of_tree c.args.tree.now c.args.self.now c.args.w c.members_uncounted.result.now c.requires c.members_uncounted.ensures

pub returns : goal.returns
returns c names held =
    let members = c.members_uncounted.result.now in
    ap (λ (items : List (LeafId × Truth)). map candidate_of items) c.new.ensures
    ∙ left_found names c.args.tree.now c.args.config.now c.args.w held (map encoding_of members) (members_of_tree c.args.tree.now c.args.self.now c.args.w members c.requires c.members_uncounted.ensures)
    ∙ all_found c.args.tree.now c.args.self.now names (configuration_of (text_of names) c.args.config.now) c.args.w members c.requires c.members_uncounted.ensures
