mod Splits
