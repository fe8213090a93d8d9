use Rattle.std.proofs.Common.{arith}
use Rattle.mrs_arena.specs.Placed.{text_of}
use Rattle.ast_eval.specs.Choices.{configuration_of}
use Rattle.insn_decode.proofs.BucketMembers.{members_of_tree, found_whole, bucket_count}
use Rattle.insn_decode.proofs.decider.Decider.decide.Goals as goal

pub found_among-requires : goal.found_among-requires
found_among-requires g c = members_of_tree c.args.tree.now c.args.self.now c.args.w c.members-members.result.now c.requires c.members-members.ensures.bucket

pub returns-clause-found : goal.returns-clause-found
returns-clause-found g c names held =
    found_whole c.args.tree.now c.args.self.now names (configuration_of (text_of names) c.args.config.now) c.args.w c.members-members.result.now c.found_among.result c.requires c.members-members.ensures.bucket (c.found_among.ensures.found names held)

pub returns-clause-cost : goal.returns-clause-cost
returns-clause-cost g c names bucket is =
    omega (arith, c.members-members.ensures.cost, c.found_among.ensures.cost, bucket_count c.args.tree.now c.args.self.now names c.args.w c.members-members.result.now bucket c.requires c.members-members.ensures.bucket is)
