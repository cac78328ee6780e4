pub mod Tenants
pub mod Laws
pub mod Hosts
