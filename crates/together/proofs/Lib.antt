-- Laws: of a client between two tapes. And that two results are alike for each client.
pub mod Going
pub mod OneAnswer
