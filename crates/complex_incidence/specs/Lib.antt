pub mod Promise
-- what the inner functions ask and give: nobody else need read it
pub mod Work
