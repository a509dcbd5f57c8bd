pub mod WorkedTalks
pub mod WorkedEnds
pub mod WorkedLinks
pub mod WorkedHoles
pub mod WorkedForms
pub mod WorkedScaling
