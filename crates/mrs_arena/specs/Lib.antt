-- Read in this order: what is put, as lists (`Flat`); expressions by their numbers (`Expressions`); what the structs of the code stand for
-- (`Views`); paths of nodes (`Paths`), lists of nodes (`Nodes`) and limits on them (`Limits`); what holds of all that is put (`Formed`);
-- the nested tree that is laid flat (`Placed`), its aliases (`AliasPaths`) and what holds where it is that of a document (`Release`).
-- Behind these the arrays of the code: those of expressions (`Table`) and those of nodes (`Inside`). `Codes` stores all as lists of numbers.
pub mod Flat
pub mod Expressions
pub mod Views
pub mod Paths
pub mod Nodes
pub mod Limits
pub mod Formed
pub mod Placed
pub mod AliasPaths
pub mod Release
pub mod Table
pub mod Inside
pub mod Codes
