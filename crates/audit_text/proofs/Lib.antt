pub mod TextLemmas
mod WorkedTexts
pub mod HexLemmas
