-- What a service took and made, by its steps and by its journal's events link by link. From Growth and Fits.
pub mod Made
pub mod Taken
pub mod Links
pub mod Counts
pub mod Gathered
pub mod GatheredOnLinks
