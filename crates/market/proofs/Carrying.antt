-- A request carried through the services body by body, until nothing is left, is answered by the sequential
-- market. On Agreeing.
pub mod Fresh
pub mod Traces
pub mod Ends
pub mod CheckoutStopped
pub mod CheckoutUnpaid
pub mod CheckoutWhole
pub mod CheckoutEnds
pub mod Fits
pub mod Products
pub mod Others
pub mod Deliver
pub mod Kinds
pub mod Weights
pub mod Shapes
pub mod Served
pub mod Giving
pub mod Passing
