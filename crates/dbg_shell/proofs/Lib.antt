mod CheckTextLemmas
mod Lists
mod SeatLemmas
mod CrewLemmas
