use Rattle.list_words.proofs.digits.+below.Given as goal

abbrev pub decreases-push_digits : goal.decreases-push_digits
decreases-push_digits l = l.below
