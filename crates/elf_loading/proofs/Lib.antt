pub mod Rounded
pub mod LoadChecks
pub mod Lists
pub mod Others
pub mod LoadPasses
pub mod LoaderChecks
mod KernelChecks
pub mod FileChecks
pub mod Follows
pub mod LoadBytes
pub mod PartsLeft
pub mod Filled
pub mod Covered
pub mod Numbers
pub mod Reasons
pub mod InOrders
pub mod NumberBytes
pub mod Written
pub mod CheckedWords
pub mod OneWords
pub mod ImageTables
pub mod RecordChecks
pub mod ImageLoads
pub mod Marks
pub mod ImageChecks
pub mod ImagePasses
pub mod WordErrors
mod CheckedImages
mod CheckedResults
mod CheckedScopes
mod NumbersRead
mod ImageLayouts
mod SlotWords
