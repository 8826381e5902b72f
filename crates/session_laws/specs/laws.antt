-- Sessions of the contracts, in the words of the chapters.
pub mod Session
