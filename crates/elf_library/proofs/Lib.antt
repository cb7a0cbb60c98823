pub mod DynamicSearch
