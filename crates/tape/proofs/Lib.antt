mod Answered
mod Entries
mod Laid
mod Numbers
mod Scan
