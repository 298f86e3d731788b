pub mod SmallPrices
