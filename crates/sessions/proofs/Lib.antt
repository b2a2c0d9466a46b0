mod Events
mod Gathering
mod Playing
mod Ending
mod ReadLemmas
mod HoldingLemmas
mod SessionLemmas
mod SeatLemmas
