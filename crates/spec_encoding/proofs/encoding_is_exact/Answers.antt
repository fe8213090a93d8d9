use Rattle.spec_encoding.proofs.EncodingLaws.{encoding_is_exact, encodes_one_word, own_pairs_encode, preferred_encodes}
use Rattle.spec_encoding.proofs.encoding_is_exact.Goals as goal

pub returns-clause-exact : goal.returns-clause-exact
returns-clause-exact c = encoding_is_exact

pub returns-clause-one : goal.returns-clause-one
returns-clause-one c = encodes_one_word

pub returns-clause-own : goal.returns-clause-own
returns-clause-own c = own_pairs_encode

pub returns-clause-alias : goal.returns-clause-alias
returns-clause-alias c = preferred_encodes
