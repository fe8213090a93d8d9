-- What the reader of Instructions documents gives (`Release`), and on the way to it: the kinds of nodes (`Kinds`), and
-- nodes as they are put (`Nodes`).
pub mod Release
pub mod Kinds
pub mod Nodes
