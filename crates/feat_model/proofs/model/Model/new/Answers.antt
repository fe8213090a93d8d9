use Rattle.std.proofs.Common.{◌∙◌, ap, sym, subst, map}
use Rattle.spec_features.specs.Features.{booleans}
use Rattle.spec_features.specs.Theory.{TheoryOf}
use Rattle.features_reader.specs.FeatureViews.{param_of}
use Rattle.feat_model.specs.Inside.{IsModel}
use Rattle.feat_model.proofs.Made.{theory_good}
use Rattle.feat_model.proofs.model.Model.new.Goals as goal

pub translated-requires-clause-names : goal.translated-requires-clause-names
translated-requires-clause-names c = c.in_ok-names.ensures ∙ ap (λ ps. booleans (map param_of ps)) c.deref.ensures.value

pub from_parts-requires : goal.from_parts-requires
from_parts-requires c =
    let P : TheoryOf _ → Type 0 = λ t. IsModel t in
    subst P (sym c.in_ok-constraints.ensures) (theory_good c.args.f.now c.requires c.requires.few_parts)

pub returns : goal.returns
returns c = c.from_parts.ensures ∙ c.in_ok-constraints.ensures
