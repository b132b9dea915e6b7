pub mod TableLaws
pub mod SpentLaws
pub mod ApartLaws
pub mod CalleeLaws
pub mod ToldLaws
mod BoundSums
mod BoundPlain
mod BoundUses
mod BoundBegun
mod BoundAccess
mod BoundWithin
mod BoundWritten
mod BoundTargets
mod BoundLaw
mod CostLaws
mod LoggedLaws
mod FittingLaws
