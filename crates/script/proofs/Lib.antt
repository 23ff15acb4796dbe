mod Digits
mod Parted
