pub mod OneToOne
mod Short
