pub mod Replies
pub mod Pages
pub mod Moments
pub mod Texts
