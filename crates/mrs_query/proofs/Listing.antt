-- A run lists as the listing theorem says.
use Rattle.std.proofs.Common.{ℕ, List}
use Rattle.spec_io.specs.States.{Writing}
use Rattle.spec_run.specs.Scene.{Scene}
use Rattle.spec_run.proofs.TheoremLaws.{listing_holds}
use Rattle.mrs_query.specs.declared.status.Status.{Status}
use Rattle.mrs_query.specs.End.{end_of}
use Rattle.mrs_query.specs.Runs.{Runs, Lists}

pub runs_list : (words : List (List ℕ)) (scene : Scene) (err err_after : Writing) (status : Status) → Runs words scene err err_after status → Lists words scene err err_after status
runs_list words scene err err_after status h = record { text = h.text; theorem = listing_holds words scene err err_after (end_of status h.text) h.answers }
