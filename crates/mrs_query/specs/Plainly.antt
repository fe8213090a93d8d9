-- A status without a text.
use Rattle.std.specs.Prelude.{◌≡◌, []}
use Rattle.mrs_query.specs.declared.status.Status.{Status}
use Rattle.mrs_query.specs.declared.ended.Ended.{Ended}

pub record IsPlainly (status : Status) (ended : Ended) : Type 0 where
  pub status_is : ended.status ≡ status
  pub none : ended.text.items ≡ []
