mod Known
mod Starts
