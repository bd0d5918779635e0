pub mod Tops
pub mod Certificates
pub mod working
