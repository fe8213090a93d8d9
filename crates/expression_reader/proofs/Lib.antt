pub mod ExprsLaws
