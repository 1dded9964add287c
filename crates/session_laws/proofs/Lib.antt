mod ReadBack
mod Cuts
mod OneHead
mod OneLog
pub mod OwnParts
mod AllLogs
pub mod NotBehind
pub mod Refreshed
pub mod Starting
mod WholeTrees
mod MadeBlocks
pub mod Loading
mod OneExecution
pub mod OneRefresh
mod GoingChains
mod GoingExecution
mod GoingHeads
pub mod Going
pub mod Missing
pub mod DecidedSnapshots
pub mod AskedPlans
pub mod AskedOwners
pub mod AskedLookups
pub mod AskedExecutions
pub mod AskedGets
pub mod AskedPuts
pub mod AskedMachines
