-- Definitions, in the order to read them: what a path's steps select, and what the kinds of step share; a test of it; what a path picks
-- with its attribute test; what a list says of an element; which name tests are tried there. Then the matcher on numbers: an element's fit,
-- states, the paths that select it, the verdict, the name tests; and the verdict by those paths whose attribute test is passed.
pub mod Select
pub mod Moves
pub mod Test
pub mod Pick
pub mod Says
pub mod Tried
pub mod Fit
pub mod State
pub mod Picked
