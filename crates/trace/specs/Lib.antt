pub mod Contents
pub mod Opening
pub mod Walking
