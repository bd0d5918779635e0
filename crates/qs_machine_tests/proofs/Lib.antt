mod Chains
mod Accepted
mod Claims
