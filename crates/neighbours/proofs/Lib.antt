pub mod KeyLaws
pub mod NeighbourLaws
pub mod NeighbourTable
