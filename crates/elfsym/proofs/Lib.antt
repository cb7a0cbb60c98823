mod Ended
mod LibraryLines
mod LineLists
mod Scopes
mod Stops
