mod Ledgers
