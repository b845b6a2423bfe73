pub mod Variables
pub mod OpenLists
pub mod Arities
pub mod Drafts
pub mod Kept
pub mod Progressing
