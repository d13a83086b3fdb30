mod Cuts
mod Digits
mod Lists
mod Fives
mod Named
