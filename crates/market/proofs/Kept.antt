-- What the lanes keep of the requests that were given, and the answer to each. On the definition of once.
pub mod LaneByLane
pub mod Answers
pub mod Hands
pub mod Lines
pub mod Places
