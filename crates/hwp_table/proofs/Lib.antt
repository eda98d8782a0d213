mod Played
mod SeatRights
mod Seated
mod SeatSteps
mod Dealt
mod Opened
mod Gathered
