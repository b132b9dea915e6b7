-- the meaning
pub mod Store
pub mod Eval
pub mod Uses
pub mod Blocks
pub mod Exec
pub mod Run
pub mod Parts
pub mod Unmarked
-- what interpreters go by
pub mod Cuts
pub mod Executed
pub mod Operands
pub mod Places
pub mod Scopes
pub mod Examples
