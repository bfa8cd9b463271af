mod Taken
mod Moments
mod Transcripts
