mod Tops
mod Zeros
