mod Reading
mod Comparing
mod Maker
