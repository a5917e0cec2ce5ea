mod Places
mod Totals
