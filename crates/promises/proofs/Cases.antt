-- The lettered cases of document 01, (a) to (j): words, distances, counts and all; growing neighbour sets; Solomon instances. Assumes nothing.
use Rattle.rules.proofs.LetteredCases.{Lettered, lettered}
use Rattle.rules.proofs.GrowingCases.{Returns, returns_to_five, Ends, ends_with_the_lists, Growing, growing}
use Rattle.rules.proofs.SolomonCases.{Imported, imported}

pub cases : Lettered
cases = lettered

-- a kept trial returns to 5; a budget that ends just at the end of a list; day M
pub growing_cases : Returns × Ends × Growing
growing_cases = (returns_to_five, ends_with_the_lists, growing)

-- a stop and its words, and texts that are refused
pub import_cases : Imported
import_cases = imported
