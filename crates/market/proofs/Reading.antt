-- Bytes of a source, the records that csv finds in them, and the requests of these; pieces of a sink. On the
-- contracts of edges and csv.
pub mod Taken
pub mod Appended
pub mod Records
pub mod Fields
pub mod Workloads
pub mod Ended
