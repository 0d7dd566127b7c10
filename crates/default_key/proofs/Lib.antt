pub mod Clauses
pub mod Exists
pub mod Firsts
pub mod Maxima
pub mod Places
pub mod Preference
pub mod Tells
