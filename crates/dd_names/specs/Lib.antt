pub mod DdName
