-- Laws that several proofs cite. Those that speak of a walk for other layers are marked LAW.
pub mod RankLaws
pub mod WalkLaws
