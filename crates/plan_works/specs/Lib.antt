pub mod WorkOf
