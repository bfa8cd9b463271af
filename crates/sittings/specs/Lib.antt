pub mod Tallies
pub mod Progresses
pub mod Courses
pub mod Moments
pub mod Transcripts
pub mod Files
