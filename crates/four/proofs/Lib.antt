-- One client's part in a call. Of two calls, each client gets the same where it hands over the same; and a call has one result.
pub mod Serving
pub mod Apart
pub mod OneAnswer
