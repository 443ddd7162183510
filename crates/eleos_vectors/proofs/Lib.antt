mod Lines
mod Opened
mod SameKeys
