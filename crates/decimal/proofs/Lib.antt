pub mod Fractions
pub mod Fronts
pub mod Range
pub mod RoundTrip
pub mod ShortNumbers
pub mod Units
pub mod WithUnits
