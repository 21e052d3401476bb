-- What the functions of start cite, and their laws.
pub mod Figures
pub mod FigureLaws
