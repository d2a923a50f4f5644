mod Sets
mod Blocks
