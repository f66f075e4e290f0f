-- The listing is measured, and filled in where there is room for it.
use Rattle.listing.proofs.Same.{not_listed, all_listed}
use Rattle.listing.proofs.write_listing.Goals as goal

pub returns-in_err-size : goal.returns-in_err-size
returns-in_err-size c = rw c.from_residual.ensures (not_listed c.args.source c.listing.ensures c.in_err-size.was)

pub returns : goal.returns
returns c = all_listed c.args.source c.listing.ensures c.in_ok-size.was c.listing-2.ensures
