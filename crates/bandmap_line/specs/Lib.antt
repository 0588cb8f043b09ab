-- What the contracts of `bandmap_line` cite.
pub mod Grammar
