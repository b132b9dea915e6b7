mod Turns
mod Steps
mod Fields
mod Numbers
