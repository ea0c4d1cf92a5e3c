pub mod Bytes
pub mod Tokens
pub mod Lexeme
pub mod TokenIn
pub mod Cutting
pub mod NextToken
