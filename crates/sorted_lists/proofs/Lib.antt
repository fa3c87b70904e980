pub mod NeighbourLemmas
