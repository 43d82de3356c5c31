pub mod Compared
pub mod Demands
pub mod Results
pub mod Many
pub mod Highest
pub mod Laws
