pub mod Vowels
pub mod Syllable
pub mod LastSyllable
pub mod Same
pub mod Bound
pub mod InWords
pub mod TonePlace
pub mod Only
