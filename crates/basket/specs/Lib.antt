pub mod Basket
