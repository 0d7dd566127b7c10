pub mod Payload
