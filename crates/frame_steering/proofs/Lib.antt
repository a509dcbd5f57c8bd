mod Growing
pub mod Given
