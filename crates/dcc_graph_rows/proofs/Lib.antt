pub mod FineGraphs
