pub mod AsPrinted
pub mod Laws
