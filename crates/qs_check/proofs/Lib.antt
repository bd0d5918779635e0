pub mod Written
pub mod Among
pub mod Sides
pub mod Limits
pub mod WhatIsRead
pub mod EachRule
