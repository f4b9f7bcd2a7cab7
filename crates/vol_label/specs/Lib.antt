pub mod CodePage
pub mod Serial
pub mod Label
