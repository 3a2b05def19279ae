pub mod OptionNames
