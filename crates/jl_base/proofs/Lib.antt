-- Lemmas.
mod Conditions
mod Distinct
mod Laws
mod Makes
mod Rows
mod Shape
mod Steps
