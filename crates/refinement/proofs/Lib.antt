mod Lists
mod Calls
mod Example
