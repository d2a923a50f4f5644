mod Copies
mod Drawings
mod Ledgers
mod Takes
mod Releases
mod Credits
mod Gathering
