pub mod Ends
pub mod AskedLines
pub mod Steps
pub mod Objects
pub mod Items
pub mod Stops
pub mod Missing
pub mod Shorts
