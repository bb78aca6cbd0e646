-- Journals grow block by block: lawful is grown, and what a block adds may stand where it stands. Stands on
-- the definitions of blocks and of lawful journals alone; all other rooms stand on it.
pub mod Members
pub mod Each
pub mod Due
pub mod Lawful
pub mod Outs
pub mod Made
pub mod Played
pub mod Takers
pub mod Replies
pub mod Proper
