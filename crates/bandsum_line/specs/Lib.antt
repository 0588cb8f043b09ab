-- What the contracts of `bandsum_line` cite.
pub mod Grammar
pub mod WorkParts
pub mod Says
