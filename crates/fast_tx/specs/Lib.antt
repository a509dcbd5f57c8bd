pub mod Piece
pub mod Going
