pub mod FlipLaws
