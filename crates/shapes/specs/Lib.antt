pub mod Numbers
pub mod Nodes
pub mod Descent
pub mod Layouts
pub mod Laws
