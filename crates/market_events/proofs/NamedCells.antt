-- Cells by name: what stands at each name, which names an input touches, and when two tables have the same
-- cells. From Values.
pub mod Touched
pub mod Named
pub mod Spelled
pub mod Keyed
pub mod Names
