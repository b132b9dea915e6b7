mod Half
mod Fields
mod Stretches
mod Lengths
mod Numerals
mod ReadBack
