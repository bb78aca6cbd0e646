pub mod TestedNodes
