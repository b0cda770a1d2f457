pub mod EventOrders
pub mod FirstCuts
pub mod TimedEvents
