-- What a lister stands for, and the answers of the code as those of the definitions of lines.
--
-- Read first `Listers` and `Machines`: the machine in which words are looked up, and what is of one release; then `Ways`,
-- leaves and aliases of a tree as those of its machine, and `Faults` with `Told`, why a line is refused. The rest says what
-- single functions keep: `Names`, `Givens` and `Encoded` of the pairs of a line, `Scans` of its tokens, `Down` of the names
-- along a path.
pub mod Machines
pub mod Listers
pub mod Ways
pub mod Faults
pub mod Told
pub mod Names
pub mod Givens
pub mod Encoded
pub mod Scans
pub mod Down
