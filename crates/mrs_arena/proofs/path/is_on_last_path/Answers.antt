use Rattle.std.proofs.Common.{◌-◌, length, map, arith}
use Rattle.std.proofs.lemmas.List.{length-map}
use Rattle.mrs_arena.specs.Inside.{parent_of}
use Rattle.mrs_arena.proofs.AlongLaws.{ancestors-lt}
use Rattle.mrs_arena.proofs.path.is_on_last_path.Goals as goal

pub returns-in-0 : goal.returns-in-0
returns-in-0 c =
    let parents = map parent_of c.args.nodes.now in
    (λ yes. absurd (cc), λ on. let low = ancestors-lt parents (length parents - 1) c.args.node.0 on in absurd (omega (arith, c.in-0.is, length-map c.args.nodes.now parent_of)))
