-- the greatest date of the elements so far
use Rattle.std.proofs.Common.{◌≡◌, take}
use Rattle.key_ring.specs.Listing.{mass_date}
use Rattle.key_ring.proofs.revoked.mass_date.Given as goal

abbrev pub invariant-loop-place : goal.invariant-loop-place
invariant-loop-place l = l.greatest ≡ mass_date (take l.place l.list)
