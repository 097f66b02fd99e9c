pub mod Numbers
pub mod Lists
pub mod PutLaws
pub mod PageLaws
