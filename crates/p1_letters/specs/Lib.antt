pub mod Alphabet
pub mod Tones
pub mod Vowels
pub mod Mirror
