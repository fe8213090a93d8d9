use Rattle.release_opening.proofs.opened.Opened.push_leaf.Goals as goal

-- as list_words appends them
pub returns : goal.returns
returns c = rw (← c.self.view_is) (c.push_leaf.ensures c.self.inside.config)
