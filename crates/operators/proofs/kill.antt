pub mod KillLaws
