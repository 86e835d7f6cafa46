-- The laws of the definitions in specs/.
pub mod Numbers
pub mod JudgeLaws
