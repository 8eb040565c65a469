-- What a reader believes of the program's lines: what they mean, what is printed for them, and how they are taken and written.
pub mod Line
pub mod Taken
pub mod inner
