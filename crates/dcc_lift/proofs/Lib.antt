pub mod ListTests
pub mod Totals
pub mod CodeBounds
pub mod PreludeWords
pub mod IncomingLaws
pub mod LeaderLaws
pub mod BegunLaws
pub mod StartingLaws
pub mod TrailFlow
mod ListLaws
mod ProcedureLaws
mod KnownLaws
pub mod NodeLaws
pub mod ChainLaws
pub mod BlockLaws
pub mod FoundSound
pub mod TranslationLaws
pub mod CallFree
pub mod Lifting
pub mod LocatedBlocks
pub mod ShownRuns
pub mod RunScenes
pub mod RunArrives
pub mod RunNodes
pub mod RunChains
pub mod RunReturns
pub mod RunCalls
pub mod RunMatched
pub mod StartMemory
pub mod RunStart
pub mod RunBegun
pub mod RunLaws
pub mod NeverForms
pub mod NeverMirrors
pub mod NeverSteps
pub mod NeverChains
pub mod NeverStands
pub mod NeverRuns
pub mod NeverGraphs
pub mod NeverSwitches
pub mod NeverEnds
mod FewLaws
mod SceneLaws
mod LowLaws
mod OpCases
pub mod FormPlaces
pub mod FormOperations
pub mod FormNodes
pub mod FormCalls
pub mod FormFlags
pub mod FormScenes
pub mod FormExits
pub mod FormBlocks
pub mod FormParams
pub mod FormAddresses
pub mod FormGraphs
pub mod FormDrawn
pub mod FormProgram
pub mod FormPassing
pub mod FormFlagReads
pub mod FormContraction
pub mod FormHasBlocks
pub mod KeptWays
pub mod KeptSteps
pub mod KeptPaces
pub mod FlagCounts
pub mod FlagOperations
pub mod FlagNodes
pub mod FlagMembers
pub mod FlagGraphs
mod LiftLaws
