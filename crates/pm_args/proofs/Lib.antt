mod Names
mod Rows
mod Rules
mod Walks
mod Parses
mod Jobs
