mod NumberFields
mod Names
mod LineFields
mod LineKinds
mod OneReading
mod Takings
mod LineBytes
mod WholeReading
