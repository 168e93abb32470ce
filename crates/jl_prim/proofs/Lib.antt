-- Worked rows.
mod Rows
