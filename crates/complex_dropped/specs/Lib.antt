pub mod Kept
pub mod Promise
pub mod KeptMesh
-- what the inner functions ask and give: nobody else need read it
pub mod Work
pub mod Says
