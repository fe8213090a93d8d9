use Rattle.std.proofs.Common.{◌∙◌}
use Rattle.feat_model.proofs.Joining.{joins, item_at}
use Rattle.feat_model.proofs.making.boolean_names.Goals as goal

pub loop-param-preserved : goal.loop-param-preserved
loop-param-preserved c =
    let j = joins c.args.params.now c.loop-param.param-index _ c.loop-param.names.keys c.add_name.new.names.keys c.requires c.loop-param.invariant.from
    (item_at c.args.params.now c.loop-param.param-index _ c.loop-param-test.true) c.in_ok-add_name.ensures in
    record { names = j.names ∙ c.loop-param.invariant.names; from = j.from }
