pub mod Literals
pub mod Closure
pub mod Tests
pub mod Search
pub mod Turns
pub mod Numbers
pub mod Growing
pub mod Model
