use Rattle.teal_laws.proofs.ShortestEncodings.{shortest_of_encoded, shortest_of_read, shortest_of_version}
use Rattle.teal_laws.proofs.laws.encodings_are_shortest.Goals as goal

pub returns-clause-encoded : goal.returns-clause-encoded
returns-clause-encoded c = shortest_of_encoded

pub returns-clause-read : goal.returns-clause-read
returns-clause-read c = shortest_of_read

pub returns-clause-of_version : goal.returns-clause-of_version
returns-clause-of_version c = shortest_of_version
