pub mod LeastPlaces
pub mod Stores
pub mod RouteTables
pub mod FewestSends
pub mod Gates
pub mod Weighed
