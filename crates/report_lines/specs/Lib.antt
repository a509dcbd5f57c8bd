pub mod Fronts
pub mod Segments
pub mod Origins
pub mod Entries
pub mod Events
pub mod Lines
pub mod Shown
pub mod Views
