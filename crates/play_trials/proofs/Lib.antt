mod SameStanding
mod InProgress
