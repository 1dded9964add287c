use Rattle.nfs_laws.proofs.Listings.{pages_are_listing, pages_go_on}
use Rattle.nfs_laws.proofs.directories_are_read_whole.Goals as goal

pub returns-clause-listing : goal.returns-clause-listing
returns-clause-listing c = pages_are_listing

pub returns-clause-goes_on : goal.returns-clause-goes_on
returns-clause-goes_on c = pages_go_on
