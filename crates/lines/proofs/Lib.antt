pub mod OneWay
pub mod Read
