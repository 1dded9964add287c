pub mod Examples
pub mod Apart
pub mod RecordsTold
pub mod Shows
pub mod LineKinds
pub mod Leaves
pub mod Still
pub mod Bringing
pub mod NotRefused
pub mod SecondTurns
pub mod DoneSteps
pub mod NotMisled
pub mod FirstWorld
pub mod Alike
pub mod Noninterference
pub mod KeptBytes
pub mod SignedHeads
pub mod MoreMet
pub mod Frames
pub mod StoredBlocks
pub mod NodeFates
pub mod Publishing
pub mod Lines
pub mod RoundBlocks
pub mod RingLines
pub mod PublicKeys
pub mod MadeViews
pub mod ViewLines
pub mod WholePublishing
pub mod InHand
pub mod OneKnown
pub mod OneFront
pub mod OneTruth
pub mod Placed
pub mod Afresh
pub mod SignedAmong
pub mod EnteredViews
pub mod KnownHeads
pub mod OtherBytes
pub mod UseLines
pub mod SignatureBytes
pub mod NewParticipant
pub mod LogLines
pub mod LineFits
pub mod RestartLines
pub mod AllLines
pub mod Taking
pub mod LackingSteps
pub mod TakingOn
pub mod Receiving
mod GotParts
pub mod GetsBring
pub mod Beginning
pub mod Opening
pub mod LineKeys
pub mod SessionLinesSteps
pub mod OpenSessions
pub mod SessionLines
pub mod HeadlineOfPublishing
pub mod HeadlineOfTrails
pub mod HeadlineOfLines
pub mod OneAsked
pub mod TurnsTaken
mod OtherTurns
mod TurnsBlocks
pub mod TurnsWorld
mod TurnsSigning
pub mod TurnsKnown
mod TurnsKept
mod TurnsConfiguration
mod AnsweredTurnsFit
pub mod AnsweredTurns
pub mod RefusedTurns
mod EachStep
pub mod ExistingPlans
pub mod ExistingFates
pub mod ExistingPuts
pub mod ExistingMessages
pub mod ExistingSessions
pub mod ExistingCalls
pub mod ExistingAsks
pub mod ExistingRing
pub mod ExistingLines
pub mod Existing
pub mod ExistingRounds
pub mod ExistingRepairs
pub mod SpelledPosts
pub mod ExistingSnaps
pub mod OneExecution
pub mod OneHeard
pub mod OneTurns
pub mod OneSteps
pub mod OneMessages
pub mod OneCalls
pub mod OneAsks
pub mod OneRing
pub mod OneLines
mod NoSnapshotSaved
mod NoSnapshotTurns
mod LastingLines
pub mod NoSnapshotLines
pub mod SnapBounds
pub mod SnapSpelled
pub mod SnapCounts
mod TreeBytes
mod SnapBytes
mod MetBytes
mod SnapRoom
pub mod SnapLines
pub mod EachLine
pub mod Moves
pub mod Effects
pub mod Growing
mod FullLoads
mod FullFetches
pub mod FullRefreshes
mod FullPlans
mod FullGets
pub mod FullRuns
pub mod FullTurns
pub mod FullSessions
pub mod TurnsExisting
pub mod FullEnds
pub mod Rooms
mod PieceBytes
mod GivenBytes
pub mod ShownReplies
pub mod NoKeys
mod BytesSteps
mod QuietLines
pub mod CallConfigurations
pub mod BytesLines
mod FullConfigurations
pub mod FullLines
pub mod FullScripts
pub mod MemoryDecided
pub mod Messages
pub mod HeadKeys
