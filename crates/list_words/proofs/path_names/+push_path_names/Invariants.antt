use Rattle.list_words.proofs.path_names.+push_path_names.Given as goal

abbrev pub decreases-push_path_names : goal.decreases-push_path_names
decreases-push_path_names l = l.n.0
