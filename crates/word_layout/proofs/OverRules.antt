-- The laws of fixed bits over others, as one set.
use Rattle.word_layout.proofs.OverLaws.{over-fixed, over-inside}

pub ruleset over_laws = (over-fixed, over-inside)
