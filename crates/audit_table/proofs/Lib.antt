mod Unmarked
