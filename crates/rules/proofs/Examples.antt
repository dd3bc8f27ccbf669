-- Examples of every operation, computed by its definition, and the calls with all that they compute with unfolded.
mod Asked
mod Records
mod Shapes
mod Positions
mod Dependencies
mod Lookup
mod CountsAndForms
mod Stretching
mod Removal
mod Union
mod Intersect
mod ContractLastAxis
mod Permute
mod Broadcast
mod Concatenate
mod FilterDepsFrom
mod Modes
