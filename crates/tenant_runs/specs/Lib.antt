pub mod Fulfilment
pub mod UnderWay
pub mod Storing
