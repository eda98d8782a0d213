pub mod BodiesBy
pub mod Inspected
pub mod GoodLoads
