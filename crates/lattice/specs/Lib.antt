pub mod Lattice
