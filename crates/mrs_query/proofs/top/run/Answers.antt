use Rattle.mrs_query.proofs.Listing.{runs_list}
use Rattle.mrs_query.proofs.top.run.Goals as goal

pub returns-clause-listing : goal.returns-clause-listing
returns-clause-listing g c = runs_list _ _ _ _ _ (record {
  text = c.perform-ended.result.text.items;
  is = c.perform-ended.ensures.text;
  answers = record { performs = c.perform-ended.ensures.performs; text = c.tell.ensures.text; count = c.tell.ensures.count };
})
