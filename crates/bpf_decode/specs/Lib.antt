pub mod Decoded
pub mod Opcodes
pub mod Text
pub use Rattle.host_types.specs.Bytes
