-- The one statement about the starred examples.
pub mod Hold
