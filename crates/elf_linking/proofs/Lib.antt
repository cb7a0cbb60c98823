pub mod lemmas
pub mod Shifts
pub mod Words
pub mod Runs
pub mod Looks
pub mod Scans
pub mod GnuChecks
pub mod GnuCounts
pub mod RelrItems
pub mod NoteItems
pub mod SegmentRecords
pub mod PortSegments
pub mod Firsts
pub mod Lasts
pub mod LoadedBytes
pub mod EntryItems
pub mod LastNumbers
pub mod NeededItems
pub mod NeededTexts
pub mod Filtered
pub mod ReferenceItems
pub mod UnresolvedItems
pub mod ViewTables
pub mod SymbolCounts
pub mod SymbolsInPlace
pub mod SegmentSymbols
pub mod BuildIdSearch
pub mod AnyTables
pub mod VersionPlaces
pub mod VersionItems
pub mod VersionSearch
mod Finds
mod Kept
mod GnuFinds
mod SysvFinds
pub mod TextsInPlace
pub mod Marking
mod Accepted
mod VersionsRead
mod Scopes
mod Questions
mod Bindings
pub mod DynamicObjects
pub mod ObjectErrors
pub mod VersionChecks
mod VersionCounts
pub mod ExportSearch
pub mod ExportChains
mod ExportFinds
mod ExportLists
mod ExportAsks
mod CheckedScopes
