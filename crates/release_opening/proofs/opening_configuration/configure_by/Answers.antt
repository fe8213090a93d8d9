use Rattle.release_opening.proofs.ChoiceLaws.{is_kept}
use Rattle.release_opening.proofs.opening_configuration.configure_by.Goals as goal

pub new-requires : goal.new-requires
new-requires c = is_kept c.args.names c.args.features.now c.in_ok-config.config c.requires.sound c.in_ok-config.ensures.kept
