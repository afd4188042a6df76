pub mod Displacement
