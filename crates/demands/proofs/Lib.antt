-- The demands of the request: Demands.antt has the three and is to be opened first, the other files have what they rest on beside the other
-- crates' theorems. In order: the demands; numbers and bytes of every answer; what is selected, counted and written; name tests; what is
-- accepted, by production [1]; repeated lines; the attributes of elements; the cut of a cut; the first fault; the answers, both ways; the
-- room that a cut takes; tables of numbers; the twelve examples; examples of name tests; lines with tests; wrong filters.
pub mod Demands
pub mod Answered
pub mod Selected
pub mod Under
pub mod Tried
pub mod Parts
pub mod Tagged
pub mod Told
pub mod Sound
pub mod First
pub mod Begins
pub mod Goes
pub mod Complete
pub mod Accepted
pub mod Refused
pub mod Allowed
pub mod Productions
pub mod Characters
pub mod Plainly
pub mod Narrow
pub mod Repeated
pub mod Reread
pub mod Recut
pub mod Each
pub mod Borne
pub mod Demand3
pub mod Position
pub mod Faults
pub mod Answers
pub mod Room
pub mod Numbers
pub mod Examples
pub mod Counts
pub mod Tests
pub mod Wrong
