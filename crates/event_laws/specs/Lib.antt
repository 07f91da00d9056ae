pub mod Match
pub mod Answers
pub mod Told
pub mod Asked
pub mod Sound
pub mod Rising
pub mod Marks
pub mod Search
