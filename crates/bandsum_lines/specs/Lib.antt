-- What the contracts of `bandsum_lines` cite.
pub mod Lines
