-- Payloads: how events and states are spelled as bytes.
pub mod Fields
pub mod QueryFields
pub mod Payloads
pub mod States
