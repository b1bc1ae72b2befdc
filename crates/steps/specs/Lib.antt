pub mod Hundreds
