mod Places
mod Mistaken
