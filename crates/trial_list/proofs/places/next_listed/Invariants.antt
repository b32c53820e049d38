-- `trial_list::places::next_listed` meets its contract.
use Rattle.trial_list.specs.Listing.{ListingOf}
use Rattle.trial_list.proofs.Passing.{Passed}
use Rattle.trial_list.proofs.places.next_listed.Given as goal

abbrev pub invariant-loop-place : goal.invariant-loop-place
invariant-loop-place g l = let part = g.P.Place.part in part.fits l.listing l.place × Passed (λ (s : ListingOf l.listing). part.rest l.listing s) l.initial.place l.place

abbrev pub decreases-loop-place : goal.decreases-loop-place
decreases-loop-place g l = g.P.Place.part.left l.listing l.place
