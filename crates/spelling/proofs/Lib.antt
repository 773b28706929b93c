mod Walks
mod Steps
