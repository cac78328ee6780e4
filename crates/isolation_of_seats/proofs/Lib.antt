mod Determined
mod Plans
