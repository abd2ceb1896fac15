pub mod GotoStructured
mod NestLaws
